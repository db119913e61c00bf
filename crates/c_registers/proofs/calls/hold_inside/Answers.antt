-- The side stays, and lends its record.
use Rattle.std.proofs.Common.{refl, subst, ap, ◌∙◌}
use Rattle.c_registers.specs.TripleCalls.{Stays, at_hand}
use Rattle.c_registers.proofs.calls.hold_inside.Goals as goal

pub returns : goal.returns
returns g c =
    let after = c.hold.follows.lender-at-none in
    let is = c.inside-get.ensures.value in (
      (refl, (λ d. tt), (after, refl, subst (λ p. Stays p after) is c.hold.follows.holds-at-none)),
      record { stays = tt; held = ap (λ a. a.words) c.hold.ensures.held ∙ ap (λ p. (at_hand p).words) is },
    )
