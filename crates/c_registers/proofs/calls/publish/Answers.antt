-- What the side's own call did, it did where the side lies.
use Rattle.std.proofs.Common.{rules, ◌≡◌, ◌∙◌, sym, refl, ap}
use Rattle.std.specs.Prelude.{◌≢◌, true, false}
use Rattle.c_registers.specs.Handles.{holding, done, at_limit, refused}
use Rattle.c_registers.proofs.calls.publish.Goals as goal

pub returns-then-live-code-clause-publish : goal.returns-then-live-code-clause-publish
returns-then-live-code-clause-publish g c =
    let not : c.args.live.now ≢ c.args.code = search rules in refused (not, c.lacks.ensures, refl)

pub returns-then-published-clause-full : goal.returns-then-published-clause-full
returns-then-published-clause-full g c = g.met.L.Holds.stays _ _

pub returns-else-published-clause-full : goal.returns-else-published-clause-full
returns-else-published-clause-full g c = g.met.L.Holds.stays _ _

pub returns-then-published-clause-publish : goal.returns-then-published-clause-publish
returns-then-published-clause-publish g c =
    let is : c.args.live.now ≡ c.args.code = search rules in
    let shown : c.publish_inside-published.result ≡ true = search rules in
    let did = c.publish_inside-published.ensures.written shown in
    done (g.D.Wraps.inner c.reach.result.now) did.0 (is, sym c.reach.ensures.value ∙ sym (g.met.D.Wraps.whole_of c.reach.result.now))
    (refl, g.met.L.Holds.has _ _ ∙ did.1) did.2

pub returns-else-published-clause-publish : goal.returns-else-published-clause-publish
returns-else-published-clause-publish g c =
    let is : c.args.live.now ≡ c.args.code = search rules in
    let none : c.publish_inside-published.result ≡ false = search rules in
    let did = c.publish_inside-published.ensures.refused none in
    let stays = g.met.L.Holds.has _ _ ∙ did.0 ∙ c.reach.ensures.value in
    at_limit (g.D.Wraps.inner c.reach.result.now) (is, sym c.reach.ensures.value ∙ sym (g.met.D.Wraps.whole_of c.reach.result.now)) did.1
    (λ i. holding ((sym is) i) (stays i))
