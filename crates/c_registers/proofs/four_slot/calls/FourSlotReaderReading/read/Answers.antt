-- What the cell's own read says is said of the side's cell.
use Rattle.std.proofs.Common.{refl, subst}
use Rattle.cell_contract.specs.CallsSoFar.{AreCallsSoFar}
use Rattle.cell_contract.specs.Intervals.{IsNextAnswer}
use Rattle.cell_contract.specs.Running.{IsAnswer}
use Rattle.cell_four_slot.specs.Words.{opening_of, answers_of, told_to, get_times, numbers_of, known_to, heard_by}
use Rattle.cell_four_slot.specs.declared.cell.FourSlotCell.{FourSlotCell}
use Rattle.c_registers.specs.Numbers.{Always, IsNoEarlier}
use Rattle.c_registers.specs.declared.numbered.Numbered.{Numbered}
use Rattle.c_registers.proofs.four_slot.calls.FourSlotReaderReading.read.Goals as goal

pub returns : goal.returns
returns g c =
    let Cell = FourSlotCell (Numbered g.row.W.Denot) in
    let old = c.args.self.now.get in
    let new = c.read.new.get in
    let did = c.read.ensures in
    let is = c.deref.ensures in
    record {
      same = refl;
      answers = did.answers;
      told = did.told;
      accesses = did.accesses;
      quiet = did.quiet;
      moved = did.moved;
      timed = did.timed;
      running = subst (λ (z : Cell). IsAnswer Always IsNoEarlier (opening_of z) (answers_of old) (told_to old) c.read.result)
          is did.running;
      written = subst (λ (z : Cell). IsNextAnswer (opening_of z) (known_to old) (known_to new) (numbers_of old) (numbers_of new)
          (answers_of new) (get_times new) c.read.result) is did.numbered;
      so_far = subst (λ (z : Cell). AreCallsSoFar Always IsNoEarlier (opening_of z) (heard_by new) (answers_of new) (get_times new))
          is did.so_far;
    }
