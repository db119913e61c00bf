-- One more round, before which the reader learns of the last write.
use Rattle.std.proofs.Common.{◌≡◌, ◌∙◌, arith, refl, subst}
use Rattle.soak_rounds.specs.Rounds.{no_round, one_round}
use Rattle.soak_rounds.proofs.pair.rounds.Goals as goal

pub loop-preserved : goal.loop-preserved
loop-preserved g c = record {
  put_cell = c.at_once.ensures.ran.0.0 ∙ c.loop.invariant.put_cell;
  get_cell = c.at_once.ensures.ran.1.0 ∙ c.loop.invariant.get_cell;
  of_put = subst (λ z. g.C.Calls.is_put z c.at_once.new.writer.put) (c.at_once.ensures.ran.0.0 ∙ c.loop.invariant.put_cell)
      c.at_once.ensures.ready.0;
  of_get = subst (λ z. g.C.Calls.is_get z c.at_once.new.reader.get) (c.at_once.ensures.ran.1.0 ∙ c.loop.invariant.get_cell)
      c.at_once.ensures.ready.1;
  rounds = rw (c.add.ensures, c.at_once.ensures.tally)
      (one_round c.loop.counter c.loop.writer.put c.tell-receipt.new.put c.at_once.new.writer.put c.loop.reader.get c.learn.new.get
      c.at_once.new.reader.get c.loop.writer.last c.at_once.new.writer.last c.loop.reader.last c.at_once.new.reader.last c.loop.tally
      c.at_once.new.writer.tally c.at_once.new.reader.tally c.loop.invariant.rounds
      (record {
        wrote = c.tell-receipt.ensures.same.0;
        read = c.learn.ensures.same.0;
        told = rw (← c.tell-receipt.ensures.named) c.learn.ensures.told;
      })
      c.at_once.ensures.ran.0.1 c.at_once.ensures.ran.1.1);
}

pub loop-init : goal.loop-init
loop-init g c = record {
  put_cell = refl;
  get_cell = refl;
  of_put = c.in_ok-cell.ensures.own.1;
  of_get = c.in_ok-cell.ensures.own.2;
  rounds = rw c.none-tally.ensures no_round;
}

pub returns : goal.returns
returns g c =
    let test = c.loop-test.false in
    let all = c.loop.auto.counter-end in
    let same : c.loop.counter ≡ c.args.count = omega arith in
    record {
      cell = c.in_ok-cell.cell;
      puts = (c.in_ok-cell.put, c.loop.writer.put);
      gets = (c.in_ok-cell.get, c.loop.reader.get);
      last = (c.loop.writer.last, c.loop.reader.last);
      of = (c.loop.invariant.of_put, c.loop.invariant.of_get);
      new = (c.in_ok-cell.ensures.empty.0, c.in_ok-cell.ensures.empty.1);
      rounds = rw (← same) c.loop.invariant.rounds;
    }
