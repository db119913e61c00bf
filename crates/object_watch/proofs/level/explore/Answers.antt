-- One more is tried, and another.
use Rattle.std.proofs.Common.{◌≡◌, ℕ, ◌≤◌, length, arith, subst}
use Rattle.object_watch.specs.inner.Levels.{AreAllTried}
use Rattle.object_watch.proofs.Growing.{grown_then, tried_more, tried_none}
use Rattle.object_watch.proofs.level.explore.Goals as goal

pub loop-other-init : goal.loop-other-init
loop-other-init g c = (
  c.in_ok-leave_out.ensures.grown,
  tried_none g.O.Object.after c.args.end c.args.from.now.state c.args.from.now.rest.items
      c.leave_out.new.seen.items c.args.place c.in_ok-leave_out.ensures.left,
)

pub loop-other-preserved : goal.loop-other-preserved
loop-other-preserved g c = (
  grown_then g.O.Object.after c.args.end c.args.from.now.state c.args.from.now.rest.items c.args.seen.now.items c.loop-other.seen.items
      c.try_first.new.seen.items c.loop-other.invariant.0 c.in_ok-try_first.ensures.grown,
  tried_more g.O.Object.after c.args.end c.args.from.now.state c.args.from.now.rest.items c.loop-other.seen.items c.try_first.new.seen.items
      c.args.place c.loop-other.other c.loop-other.invariant.1 c.in_ok-try_first.ensures.grown c.in_ok-try_first.ensures.tried,
)

pub returns-clause-grown : goal.returns-clause-grown
returns-clause-grown g c = c.loop-other.invariant.0

pub returns-clause-tried : goal.returns-clause-tried
returns-clause-tried g c =
    let done : c.len-other-end.result ≤ c.loop-other.other = c.loop-other-test.false in
    let long : c.len-other-end.result ≡ length c.args.from.now.rest.items =
    let e = c.len-other-end.ensures in let k = c.args.from.now.rest.ok in omega (arith, e, k) in
    let same : c.loop-other.other ≡ length c.args.from.now.rest.items =
    let l = c.loop-other.auto.other-end in omega (arith, done, long, l) in
    let P : ℕ → Type 0 = λ z. AreAllTried g.O.Object.after c.args.end c.args.from.now.state c.args.from.now.rest.items c.args.place z
    c.loop-other.seen.items in
    subst P same c.loop-other.invariant.1
