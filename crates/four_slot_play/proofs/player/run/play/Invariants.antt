-- What the run shows is the fold of the events over the steps passed, and each step makes the next event.
use Rattle.std.proofs.Common.{◌≡◌, take}
use Rattle.four_slot_play.specs.inner.Runs.{numbered_run, shown}
use Rattle.four_slot_play.proofs.player.run.play.Given as goal

abbrev pub invariant-loop-turn : goal.invariant-loop-turn
invariant-loop-turn g l = shown l.run ≡ numbered_run l.opening l.fn.noise l.writes (take l.turn-index l.steps)
