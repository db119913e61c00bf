-- The counts are those of the steps passed, and the lists say what these steps begin, end and store.
use Rattle.four_slot_play.specs.inner.Parts.{IsOperationsOf}
use Rattle.four_slot_play.proofs.player.steps.Counts.{actors, IsMade}
use Rattle.four_slot_play.proofs.player.steps.read_steps.Given as goal

abbrev pub invariant-loop-position : goal.invariant-loop-position
invariant-loop-position l = record {
  made : IsMade (actors l.position l.steps) l.made;
  all : IsOperationsOf (actors l.position l.steps) l.all.parts.items l.all.writer_ends.items l.all.reader_ends.items l.all.stores.items;
}
