-- The reads so far stand among the answers, and were noted.
use Rattle.std.proofs.Common.{◌≡◌}
use Rattle.soak_rounds.specs.Rounds.{Adds, NotedReads}
use Rattle.soak_rounds.proofs.pair.ReaderSide.run.Given as goal

abbrev pub invariant-loop : goal.invariant-loop
invariant-loop g l = record {
  cell : l.self.cell.now ≡ l.fn.self.cell.now;
  of : g.C.Calls.is_get l.self.cell.now l.self.get;
  adds : Adds (NotedReads (λ r. g.W.Words.listed r.words) l.fn.self.last) l.counter (g.C.Calls.answers l.fn.self.get)
      (g.C.Calls.answers l.self.get) l.self.tally l.self.last;
}
