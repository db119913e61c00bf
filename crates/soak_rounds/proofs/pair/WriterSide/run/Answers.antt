-- One more write stands at the end of the pass's list.
use Rattle.std.proofs.Common.{refl}
use Rattle.soak_rounds.proofs.Lists.{none_written, one_more_written}
use Rattle.soak_rounds.proofs.pair.WriterSide.run.Goals as goal

pub loop-init : goal.loop-init
loop-init g c = record {
  cell = refl;
  of = c.requires;
  adds = rw c.none-self.ensures (none_written (λ r. g.W.Words.listed r.words) c.args.self.now.last (g.C.Calls.written c.args.self.now.put));
}

pub loop-preserved : goal.loop-preserved
loop-preserved g c = record {
  cell = c.loop.invariant.cell;
  of = c.write.ensures.own;
  adds = rw (c.write-in-loop.ensures, c.saturating_add-self.ensures)
      (one_more_written (λ r. g.W.Words.listed r.words) c.args.self.now.last c.loop.counter c.loop.self.last
      (g.C.Calls.written c.args.self.now.put) (g.C.Calls.written c.loop.self.put) (g.C.Calls.written c.write.new.put) c.loop.self.tally
      c.of.result c.loop.invariant.adds c.write.ensures.written (rw (← c.saturating_add-self.ensures) c.of.ensures));
}
