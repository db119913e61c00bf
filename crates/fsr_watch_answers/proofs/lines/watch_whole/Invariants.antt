-- Whole lines were watched, a line after the other.
use Rattle.std.proofs.Common.{Option, length}
use Rattle.watch_lines.specs.Seen.{LinesSeen}
use Rattle.watch_lines.specs.Watchers.{KnowsIf}
use Rattle.fsr_watch_answers.specs.inner.Comings.{IsWatchedTo}
use Rattle.fsr_watch_answers.proofs.lines.watch_whole.Given as goal

abbrev pub invariant-lines : goal.invariant-lines
invariant-lines l = (seen : Option LinesSeen) → KnowsIf seen l.initial.read → IsWatchedTo seen l.initial.rest l.rest l.read

abbrev pub decreases-lines : goal.decreases-lines
decreases-lines l = length l.rest
