-- What the logs so far were counted as.
use Rattle.std.proofs.Common.{◌≡◌, map, take}
use Rattle.soak_rounds.specs.Scripts.{counted_in, reads_of, writes_of}
use Rattle.soak_rounds.proofs.boards.look.Given as goal

abbrev pub invariant-loop-lane : goal.invariant-loop-lane
invariant-loop-lane g l = record {
  writes : l.writes ≡ counted_in writes_of 0 (map (λ l. l.log.items) (take l.lane-index l.lanes));
  reads : l.reads ≡ counted_in reads_of 0 (map (λ l. l.log.items) (take l.lane-index l.lanes));
}
