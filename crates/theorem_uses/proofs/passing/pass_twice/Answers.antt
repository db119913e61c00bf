-- The second receipt has the time of the first, and so each read begins after the write had ended.
use Rattle.std.proofs.Common.{◌≡◌, refl, ◌∙◌, ap, arith}
use Rattle.board_live.specs.Records.{stamped}
use Rattle.theorem_uses.proofs.passing.pass_twice.Goals as goal

pub returns-clause-first : goal.returns-clause-first
returns-clause-first g c = λ qs ps hq hp.
    let clock = g.F.Family.clock in
    let write = c.in-Ok.ensures.call.1 in
    let chose = c.in-Ok.ensures.call.2 in
    let read = c.read-early.ensures.call in
    let wrote : clock c.write.new.pass.seat ≡ write.end = write.interval.2 in
    let told = c.tell-told.ensures.later in
    let kept = ap (λ z. g.F.Family.time_of z.told) c.duplicate-again.ensures.same in
    let heard = c.learn.ensures.learnt.time in
    let begins = read.interval.0 in
    record {
      write = record {
        begin = write.begin;
        end = write.end;
        kind = _;
        seen = stamped c.in-Ok.ensures.call.0;
        chosen = stamped c.write.new.pass.own;
        tells = write.tells;
        finds = write.finds;
      };
      read = record {
        begin = read.begin;
        end = read.end;
        kind = _;
        seen = stamped c.read-early.result;
        chosen = stamped c.read-early.new.pass.own;
        tells = read.tells;
        finds = read.finds;
      };
      wrote = (c.tell-told.ensures.same c.in-Ok.ensures.told).made _ (write.made qs hq);
      looked = read.made ps (c.learn.ensures.same.made ps hp);
      kinds = (refl, refl);
      records = (ap stamped chose.2, ap stamped c.read-early.ensures.chosen);
      later = omega (arith, wrote, told, kept, heard, begins);
    }

pub returns-clause-second : goal.returns-clause-second
returns-clause-second g c = λ qs rs hq hr.
    let clock = g.F.Family.clock in
    let write = c.in-Ok.ensures.call.1 in
    let chose = c.in-Ok.ensures.call.2 in
    let read = c.read-late.ensures.call in
    let wrote : clock c.write.new.pass.seat ≡ write.end = write.interval.2 in
    let told = c.tell-told.ensures.later in
    let time = c.duplicate-again.ensures.again.time in
    let heard = c.learn-2.ensures.learnt.time in
    let begins = read.interval.0 in
    record {
      write = record {
        begin = write.begin;
        end = write.end;
        kind = _;
        seen = stamped c.in-Ok.ensures.call.0;
        chosen = stamped c.write.new.pass.own;
        tells = write.tells;
        finds = write.finds;
      };
      read = record {
        begin = read.begin;
        end = read.end;
        kind = _;
        seen = stamped c.read-late.result;
        chosen = stamped c.read-late.new.pass.own;
        tells = read.tells;
        finds = read.finds;
      };
      wrote = (c.tell-told.ensures.same c.in-Ok.ensures.told).made _ (write.made qs hq);
      looked = read.made rs (c.learn-2.ensures.same.made rs hr);
      kinds = (refl, refl);
      records = (ap stamped chose.2, ap stamped c.read-late.ensures.chosen);
      later = omega (arith, wrote, told, time, heard, begins);
    }
