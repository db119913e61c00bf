-- What the side's own call did, it did where the side lies.
use Rattle.std.proofs.Common.{rules, ◌≡◌, ◌∙◌, sym, refl, ap}
use Rattle.std.specs.Prelude.{◌≢◌, true, false}
use Rattle.c_registers.specs.Handles.{done, refused}
use Rattle.c_registers.proofs.calls.look.Goals as goal

pub returns-then-live-code-clause-look : goal.returns-then-live-code-clause-look
returns-then-live-code-clause-look g c =
    let not : c.args.live.now ≢ c.args.code = search rules in refused (not, c.lacks.ensures, refl) refl

pub returns-clause-full : goal.returns-clause-full
returns-clause-full g c = g.met.L.Holds.stays _ _

pub returns-clause-look : goal.returns-clause-look
returns-clause-look g c =
    let is : c.args.live.now ≡ c.args.code = search rules in
    let did = c.look_inside.ensures in
    done (g.D.Wraps.inner c.reach.result.now) did.0 did.1
    (is, sym c.reach.ensures.value ∙ sym (g.met.D.Wraps.whole_of c.reach.result.now)) (refl, g.met.L.Holds.has _ _ ∙ did.2) did.3
