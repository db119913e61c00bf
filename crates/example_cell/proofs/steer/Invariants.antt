-- The sample is the last answer, whole, and no older than at the start.
use Rattle.std.proofs.Common.{◌≡◌, ◌≤◌}
use Rattle.cell_contract.specs.Running.{last_or}
use Rattle.example_cell.proofs.steer.Given as goal

abbrev pub invariant-loop : goal.invariant-loop
invariant-loop g l = record {
  own : g.C.Calls.is_get l.cell l.task.get;
  last : l.task.sample ≡ last_or (g.C.Calls.opening l.cell) (g.C.Calls.answers l.task.get);
  whole : (l.task.sample.low ≤ l.task.sample.reading) × (l.task.sample.reading ≤ l.task.sample.high);
  no_older : l.initial.task.sample.number ≤ l.task.sample.number;
}
