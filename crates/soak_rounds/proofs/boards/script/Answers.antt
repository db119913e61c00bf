-- One more write, and a read after it.
use Rattle.std.proofs.Common.{◌≡◌, arith}
use Rattle.soak_rounds.specs.Scripts.{no_call, two_calls}
use Rattle.soak_rounds.proofs.BoardLists.{both_lawful, none_lawful, scripted_all}
use Rattle.soak_rounds.proofs.boards.script.Goals as goal

pub loop-init : goal.loop-init
loop-init g c = record {
  lawful = rw c.new-wishes.ensures.items none_lawful;
  scripted = rw c.new-wishes.ensures.items no_call;
}

pub loop-preserved : goal.loop-preserved
loop-preserved g c =
    let wrote = c.write.ensures.write in
    record {
      lawful = rw (c.in_ok-push-2.ensures.items, c.in_ok-push.ensures.items)
          (both_lawful c.loop.wishes.items c.write.result c.loop.invariant.lawful c.write.ensures.lawful);
      scripted = rw (c.in_ok-push-2.ensures.items, c.in_ok-push.ensures.items, c.saturating_add-number.ensures, wrote.1)
          (two_calls c.loop.counter c.loop.number c.loop.wishes.items wrote.0 c.loop.invariant.scripted wrote.2);
    }

pub returns-clause-scripted : goal.returns-clause-scripted
returns-clause-scripted g c =
    let test = c.loop-test.false in
    let all = c.loop.auto.counter-end in
    let same : c.loop.counter ≡ c.args.calls = omega arith in (
      c.loop.number,
      rw c.new.ensures
          (scripted_all (λ x. g.W.Words.listed x.words) c.args.first c.args.step c.loop.counter c.args.calls c.loop.number
          c.loop.wishes.items same
          c.loop.invariant.scripted),
    )
