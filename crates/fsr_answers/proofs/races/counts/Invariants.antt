-- The counts of the logs so far.
use Rattle.std.proofs.Common.{◌≡◌, map, take, Global}
use Rattle.std.specs.Prelude.{Vec}
use Rattle.history_core.specs.declared.band.Band.{Band}
use Rattle.board_tasks.specs.declared.lane.Entry.{Entry}
use Rattle.fsr_answers.specs.Races.{counts_of}
use Rattle.fsr_answers.proofs.races.counts.Given as goal

abbrev pub invariant-loop-log : goal.invariant-loop-log
invariant-loop-log l = l.counts.items ≡ map (λ (v : Vec (Entry Band) Global). counts_of v.items) (take l.log-index l.logs)
