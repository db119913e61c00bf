-- The last number is the one just written.
use Rattle.std.proofs.Common.{◌≡◌, List, ◌∙◌, ap, subst}
use Rattle.std.specs.Arc.{arc_value}
use Rattle.cell_contract.specs.Running.{last_or}
use Rattle.cell_four_slot.specs.Words.{opening_of, is_put_of, written_by}
use Rattle.cell_contract.proofs.ListLaws.{last_snoc}
use Rattle.cell_four_slot.specs.declared.cell.FourSlotCell.{FourSlotCell}
use Rattle.c_registers.specs.Numbers.{numbered}
use Rattle.c_registers.specs.declared.numbered.Numbered.{Numbered}
use Rattle.c_registers.proofs.four_slot.calls.FourSlotWriterWriting.write.Goals as goal

pub invariant_of-self : goal.invariant_of-self
invariant_of-self g c =
    let item : Numbered g.row.W.Denot = numbered c.in-Some.number c.args.words.now in
    let put = c.args.self.now.put in
    let o = opening_of (arc_value c.args.self.now.cell) in
    let last : (last_or o (written_by c.write_laid.new.put)).number ≡ c.in-Some.number =
    ap (λ (xs : List (Numbered g.row.W.Denot)). (last_or o xs).number) c.write_laid.ensures.written
    ∙ ap (λ (x : Numbered g.row.W.Denot). x.number) (last_snoc o (written_by put) item) in
    record {
      own = subst (λ (x : FourSlotCell (Numbered g.row.W.Denot)). is_put_of x c.write_laid.new.put)
          c.deref.ensures c.write_laid.ensures.own;
      last = last;
    }
