-- The side has what its pass has, in its room.
use Rattle.std.proofs.Common.{refl, ap, ◌∙◌}
use Rattle.cell_triple.specs.Lent.{placed_by}
use Rattle.c_registers.specs.Numbers.{numbered}
use Rattle.c_registers.specs.TripleCalls.{filler_with}
use Rattle.c_registers.proofs.Same.{same_writer}
use Rattle.c_registers.proofs.triple.TripleWriter.loan.Goals as goal

pub returns : goal.returns
returns g c =
    let lent = c.place-lent.ensures.value ∙ ap (λ f. placed_by f.put) c.inside.ensures.value in (
      (
        refl,
        λ w. same_writer g.row.W g.W.Clone _ _
            (λ i. record { inner = filler_with (c.inside.ensures.value i) (numbered (lent i).number w) }) refl,
      ),
      record { lent = tt; value = ap (λ a. a.words) lent },
    )
