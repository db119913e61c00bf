-- Each part gives one operation, so what is listed so far are the operations of the parts passed.
use Rattle.std.proofs.Common.{◌≡◌, map, take}
use Rattle.four_slot_play.specs.inner.Parts.{op_of}
use Rattle.four_slot_play.proofs.player.report.Played.operations.Given as goal

abbrev pub invariant-loop-part : goal.invariant-loop-part
invariant-loop-part g l = l.ops.items
    ≡ map (op_of l.writes l.self.all.writer_ends.items l.self.all.reader_ends.items l.self.run.answers.items) (take l.part-index l.parts)
