-- What the place's own call did, it did where the place lies.
use Rattle.std.proofs.Common.{rules, ◌≡◌, ◌∙◌, sym, refl, subst}
use Rattle.std.specs.Prelude.{◌≢◌}
use Rattle.c_boards.specs.Places.{done, at_limit, refused}
use Rattle.c_boards.proofs.calls.write_place.Goals as goal

pub returns-then-live-code-clause-write : goal.returns-then-live-code-clause-write
returns-then-live-code-clause-write g c =
    let not : c.args.live.now ≢ c.args.code = search rules in refused (not, c.lacks.ensures, refl) refl

pub returns-in-None-clause-full : goal.returns-in-None-clause-full
returns-in-None-clause-full g c = g.met.L.Holds.stays _ _

pub returns-in-Some-clause-full : goal.returns-in-Some-clause-full
returns-in-Some-clause-full g c = g.met.L.Holds.stays _ _

pub returns-in-None-clause-write : goal.returns-in-None-clause-write
returns-in-None-clause-write g c =
    let is : c.args.live.now ≡ c.args.code = search rules in
    let did = c.in-None.ensures.refused in
    at_limit (g.D.Wraps.inner c.reach.result.now) did.0 (is, sym c.reach.ensures.value ∙ sym (g.met.D.Wraps.whole_of c.reach.result.now))
    (refl, g.met.L.Holds.has _ _ ∙ did.1) did.2 refl

pub returns-in-Some-clause-write : goal.returns-in-Some-clause-write
returns-in-Some-clause-write g c =
    let is : c.args.live.now ≡ c.args.code = search rules in
    let did = c.in-Some.ensures.posted in
    done (g.D.Wraps.inner c.reach.result.now) did.0 (is, sym c.reach.ensures.value ∙ sym (g.met.D.Wraps.whole_of c.reach.result.now))
    (refl, g.met.L.Holds.has _ _ ∙ did.1)
    (subst (λ s. g.S.Posts.has_posted (g.D.Wraps.inner c.reach.result.now) did.0 c.args.item.now s) (sym c.mark_of.ensures) did.2)
