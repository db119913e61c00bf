-- What the cell's own read says is said of the side's cell, and the record whose number is given stays behind.
use Rattle.std.proofs.Common.{rules, ◌≡◌, refl, subst, sym}
use Rattle.cell_contract.specs.CallsSoFar.{AreCallsSoFar}
use Rattle.cell_contract.specs.Intervals.{IsNextAnswer}
use Rattle.cell_contract.specs.Running.{IsAnswer}
use Rattle.cell_four_slot.specs.Words.{opening_of, answers_of, told_to, get_times, numbers_of, known_to, heard_by, at_hand_of}
use Rattle.cell_four_slot.specs.declared.cell.FourSlotCell.{FourSlotCell}
use Rattle.c_registers.specs.FourSlotCalls.{HasRead}
use Rattle.c_registers.specs.Numbers.{Always, IsNoEarlier, numbered}
use Rattle.c_registers.specs.declared.four_slot.FourSlotReader.{FourSlotReader}
use Rattle.c_registers.specs.declared.numbered.Numbered.{Numbered}
use Rattle.c_registers.proofs.four_slot.calls.FourSlotReaderReading.look.Goals as goal

pub returns : goal.returns
returns g c =
    let Cell = FourSlotCell (Numbered g.row.W.Denot) in
    let side = c.args.self.now in
    let old = side.get in
    let new = c.read_with.new.get in
    let answer = at_hand_of new in
    let number : c.read_with.result ≡ answer.number = search rules in
    let did = c.read_with.ensures in
    let is = c.deref.ensures in
    let after : FourSlotReader g.row.W.Denot = record { cell = side.cell; get = new; own = _ } in
    let has_read : HasRead side after answer = record {
      same = refl;
      answers = did.answers;
      told = did.told;
      accesses = did.accesses;
      quiet = did.quiet;
      moved = did.moved;
      timed = did.timed;
      running = subst (λ (z : Cell). IsAnswer Always IsNoEarlier (opening_of z) (answers_of old) (told_to old) answer)
          is did.running;
      written = subst (λ (z : Cell). IsNextAnswer (opening_of z) (known_to old) (known_to new) (numbers_of old) (numbers_of new)
          (answers_of new) (get_times new) answer) is did.numbered;
      so_far = subst (λ (z : Cell). AreCallsSoFar Always IsNoEarlier (opening_of z) (heard_by new) (answers_of new) (get_times new))
          is did.so_far;
    } in
    (answer.words, subst (λ n. HasRead side after (numbered n answer.words)) (sym number) has_read)
