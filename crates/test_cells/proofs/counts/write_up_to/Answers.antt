-- The last count is the one just written, which is that of the turn.
use Rattle.std.proofs.Common.{◌+◌, ◌≡◌, List, ◌∙◌, ap, arith}
use Rattle.test_cells.specs.declared.counts.Count.{Count}
use Rattle.cell_contract.specs.Running.{last_or}
use Rattle.cell_contract.proofs.ListLaws.{last_snoc}
use Rattle.test_cells.proofs.counts.write_up_to.Goals as goal

pub loop-i-preserved : goal.loop-i-preserved
loop-i-preserved g c =
    let o = g.C.Calls.opening c.args.cell.now in let i = c.loop-i.i in
    let last : (last_or o (g.C.Calls.written c.write.new.put)).0 ≡ i + 1 =
    ap (λ (xs : List Count). (last_or o xs).0) c.write.ensures.written
    ∙ ap (λ (x : Count). x.0) (last_snoc o (g.C.Calls.written c.loop-i.put) (record { 0 = i + 1 })) in
    (c.write.ensures.own, omega arith)
