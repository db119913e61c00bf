-- The last sample is the one just written.
use Rattle.std.proofs.Common.{List, ◌∙◌, ap, refl}
use Rattle.example_cell.specs.declared.Sample.{Sample}
use Rattle.cell_contract.specs.Running.{last_or}
use Rattle.cell_contract.proofs.ListLaws.{last_snoc}
use Rattle.example_cell.proofs.publish.Goals as goal

pub loop-turn-preserved : goal.loop-turn-preserved
loop-turn-preserved g c =
    let o = g.C.Calls.opening c.args.cell.now in (
      c.write.ensures.own,
      ap (λ (xs : List Sample). (last_or o xs).number) c.write.ensures.written
          ∙ ap (λ (x : Sample). x.number) (last_snoc o (g.C.Calls.written c.loop-turn.task.put) c.measured.result)
          ∙ c.measured.ensures.0,
      refl,
    )
