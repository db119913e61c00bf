-- One more read stands at the end of the pass's list.
use Rattle.std.proofs.Common.{refl}
use Rattle.soak_rounds.proofs.Lists.{none_read, one_more_read}
use Rattle.soak_rounds.proofs.pair.ReaderSide.run.Goals as goal

pub loop-init : goal.loop-init
loop-init g c = record {
  cell = refl;
  of = c.requires;
  adds = rw c.none-self.ensures (none_read (λ r. g.W.Words.listed r.words) c.args.self.now.last (g.C.Calls.answers c.args.self.now.get));
}

pub loop-preserved : goal.loop-preserved
loop-preserved g c = record {
  cell = c.loop.invariant.cell;
  of = c.look-number.ensures.own;
  adds = rw (c.note.ensures, c.last_read-self.ensures)
      (one_more_read (λ r. g.W.Words.listed r.words) c.args.self.now.last c.loop.counter c.loop.self.last
      (g.C.Calls.answers c.args.self.now.get) (g.C.Calls.answers c.loop.self.get)
      (g.C.Calls.answers c.look-number.new.get) c.loop.self.tally
      (g.C.Calls.at_hand c.look-number.new.get) c.look-number.result c.loop.invariant.adds c.look-number.ensures.answers
      c.look-number.ensures.number);
}
