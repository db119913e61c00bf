-- The side has what lies in its slot.
use Rattle.std.proofs.Common.{refl, ap, ◌∙◌}
use Rattle.c_registers.specs.TripleCalls.{in_slot, writer_with}
use Rattle.c_registers.proofs.calls.slot_inside.Goals as goal

pub returns : goal.returns
returns g c =
    let is = c.inside-put.ensures.value in (
      (refl, λ w. ap (λ p. g.D.Wraps.side (writer_with p w)) is),
      record { lent = tt; value = c.loan.ensures.value ∙ ap (λ p. (in_slot p).words) is },
    )
