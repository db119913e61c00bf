-- What the cell in play has told is the fold over the steps passed, and no more writes have begun than steps were made.
use Rattle.std.proofs.Common.{◌≡◌, ◌≤◌, take}
use Rattle.cell_steps.specs.inner.Runs.{in_play, play_of}
use Rattle.cell_steps.proofs.in_play.play.Given as goal

abbrev pub invariant-loop-letter : goal.invariant-loop-letter
invariant-loop-letter l = (in_play l.run ≡ play_of (take l.letter-index l.steps)) × (l.run.begun ≤ l.letter-index)
