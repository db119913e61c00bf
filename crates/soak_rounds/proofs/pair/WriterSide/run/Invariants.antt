-- The writes so far stand among those of the pass, and were counted.
use Rattle.std.proofs.Common.{◌≡◌}
use Rattle.soak_rounds.specs.Rounds.{Adds, Wrote}
use Rattle.soak_rounds.proofs.pair.WriterSide.run.Given as goal

abbrev pub invariant-loop : goal.invariant-loop
invariant-loop g l = record {
  cell : l.self.cell.now ≡ l.fn.self.cell.now;
  of : g.C.Calls.is_put l.self.cell.now l.self.put;
  adds : Adds (Wrote (λ r. g.W.Words.listed r.words) l.fn.self.last) l.counter (g.C.Calls.written l.fn.self.put)
      (g.C.Calls.written l.self.put) l.self.tally l.self.last;
}
