-- The last record is the one just written, so its number is that of the turn.
use Rattle.std.proofs.Common.{List, ◌∙◌, ap}
use Rattle.test_cells.specs.declared.torn.Three.{Three}
use Rattle.cell_contract.specs.Running.{last_or}
use Rattle.cell_contract.proofs.ListLaws.{last_snoc}
use Rattle.test_cells.proofs.torn.write_on.Goals as goal

pub loop-i-preserved : goal.loop-i-preserved
loop-i-preserved g c =
    let o = g.C.Calls.opening c.args.cell.now in (
      c.write.ensures.own,
      ap (λ (xs : List Three). (last_or o xs).first) c.write.ensures.written
          ∙ ap (λ (x : Three). x.first) (last_snoc o (g.C.Calls.written c.loop-i.put) c.of.result) ∙ c.of.ensures.0,
    )
