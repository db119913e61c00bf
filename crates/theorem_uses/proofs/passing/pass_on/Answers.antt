-- Each receipt has the last time of which its sender knew, and whoever learns it knows of none earlier: so the read begins after the write
-- had ended.
use Rattle.std.proofs.Common.{◌≡◌, refl, ◌∙◌, ap, arith}
use Rattle.board_live.specs.Records.{stamped}
use Rattle.theorem_uses.proofs.passing.pass_on.Goals as goal

pub returns-clause-q : goal.returns-clause-q
returns-clause-q g c = (c.tell-first.ensures.pass, c.tell-first.ensures.process ∙ c.in-Ok.ensures.call.1.process)

pub returns-clause-p : goal.returns-clause-p
returns-clause-p g c = (c.tell-second.ensures.pass, c.tell-second.ensures.process ∙ c.learn.ensures.same.process)

pub returns-clause-r : goal.returns-clause-r
returns-clause-r g c = (c.read-answer.ensures.pass, c.read-answer.ensures.call.process ∙ c.learn-2.ensures.same.process)

pub returns-clause-silent : goal.returns-clause-silent
returns-clause-silent g c = λ told calls h.
    (c.tell-second.ensures.same (c.learn.ensures.same.told ∙ told)).made calls (c.learn.ensures.same.made calls h)

pub returns-clause-heard : goal.returns-clause-heard
returns-clause-heard g c = λ qs rs hq hr.
    let clock = g.F.Family.clock in
    let write = c.in-Ok.ensures.call.1 in
    let chose = c.in-Ok.ensures.call.2 in
    let read = c.read-answer.ensures.call in
    let seen = c.in-Ok.ensures.call.0 in
    let wrote : clock c.write.new.pass.seat ≡ write.end = write.interval.2 in
    let first = c.tell-first.ensures.later in
    let heard = c.learn.ensures.learnt.time in
    let second = c.tell-second.ensures.later in
    let heard_too = c.learn-2.ensures.learnt.time in
    let begins = read.interval.0 in
    record {
      write = record {
        begin = write.begin;
        end = write.end;
        kind = _;
        seen = stamped seen;
        chosen = stamped c.write.new.pass.own;
        tells = write.tells;
        finds = write.finds;
      };
      read = record {
        begin = read.begin;
        end = read.end;
        kind = _;
        seen = stamped c.read-answer.result;
        chosen = stamped c.read-answer.new.pass.own;
        tells = read.tells;
        finds = read.finds;
      };
      wrote = (c.tell-first.ensures.same c.in-Ok.ensures.told).made _ (write.made qs hq);
      looked = read.made rs (c.learn-2.ensures.same.made rs hr);
      kinds = (refl, refl);
      records = (ap stamped chose.2, ap stamped c.read-answer.ensures.chosen);
      later = omega (arith, wrote, first, heard, second, heard_too, begins);
    }
