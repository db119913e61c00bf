-- The rounds so far, each of which leaves both sides with a pass of this cell.
use Rattle.std.proofs.Common.{◌≡◌}
use Rattle.soak_rounds.specs.Rounds.{Rounds}
use Rattle.soak_rounds.specs.declared.pair.TheConstants.{CALLS}
use Rattle.soak_rounds.proofs.pair.rounds.Given as goal

abbrev pub invariant-loop : goal.invariant-loop
invariant-loop g l = record {
  put_cell : l.writer.cell.now ≡ l.initial.writer.cell.now;
  get_cell : l.reader.cell.now ≡ l.initial.writer.cell.now;
  of_put : g.C.Calls.is_put l.initial.writer.cell.now l.writer.put;
  of_get : g.C.Calls.is_get l.initial.writer.cell.now l.reader.get;
  rounds : Rounds (λ r. g.W.Words.listed r.words) g.C.Calls CALLS l.initial.writer.cell.now l.initial.writer.put l.initial.reader.get
      l.counter
      l.writer.put l.reader.get l.writer.last l.reader.last l.tally;
}
