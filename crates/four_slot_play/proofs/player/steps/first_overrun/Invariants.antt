-- The counts are those of the steps passed, and each of these had an operation left.
use Rattle.std.proofs.Common.{ℕ, ◌<◌}
use Rattle.history_core.specs.Schedules.{Overruns}
use Rattle.four_slot_core.specs.Play.{span_of}
use Rattle.four_slot_play.proofs.player.steps.Counts.{actors, IsMade}
use Rattle.four_slot_play.proofs.player.steps.first_overrun.Given as goal

abbrev pub invariant-loop-position : goal.invariant-loop-position
invariant-loop-position g l = record {
  made : IsMade (actors l.position l.steps) l.made;
  none : (p : ℕ) → p < l.position → ¬ Overruns (span_of l.steps l.writes l.reads) p;
}
