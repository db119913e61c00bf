-- Each is a part of its definition.
use Rattle.cell_contract.specs.declared.family.Family.{Ghosts as FamilyWords}
use Rattle.board_live.specs.declared.record.Posted.{Posted}
use Rattle.theorem_uses.specs.Learnt.{BoundsShow, DuplicatesShow, LearntShow, ReceiptsShow, SameShow, ToldShow}

module _ {V F S T : Type 0} (words : FamilyWords F (Posted V) S T) where
  pub receipts : ReceiptsShow words
  receipts board receipt is = (is.of, is.sender, is.inside, is.names)

  pub told : ToldShow words
  told board old new receipt has = (has.is, has.from, has.names, has.time, has.tells, has.reads)

  pub duplicates : DuplicatesShow words
  duplicates board receipt again is = (is.is, is.from, is.names, is.time, is.tells)

  pub learnt : LearntShow words
  learnt old new receipt has other =
      let heard = has.heard other in
      (has.time, heard.told, heard.heard, heard.answers, heard.numbers, heard.known, heard.begins, heard.ends, has.others)

  pub bounds : BoundsShow words
  bounds board old new is = (is.each, is.accesses)

  pub same : SameShow words
  same board old new calls has = (has.process, has.own, has.told, has.later, has.writes, has.made calls)
