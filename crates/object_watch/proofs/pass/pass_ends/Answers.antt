-- One end more, behind which something is left or nothing.
use Rattle.std.proofs.Common.{rules, ◌+◌, ◌<◌, ◌≤◌, List, length, Option, IfNone, IfSome, subst, arith}
use Rattle.std.specs.Global.{Global}
use Rattle.std.specs.Prelude.{Vec}
use Rattle.object_watch.specs.declared.ends.End.{End}
use Rattle.object_watch.specs.declared.remainder.Remainder.{Remainder}
use Rattle.object_watch.specs.inner.Levels.{AreLeftBehind, IsSoonestEnd, NoneIsOverBefore}
use Rattle.object_watch.proofs.Passing.{led_more, led_same}
use Rattle.object_watch.proofs.Soonest.{soonest_high, soonest_low}
use Rattle.object_watch.proofs.Watching.{ahead_at_all, none_ahead, rises_done, rises_first, rises_lost, rises_more, rises_too_many}
use Rattle.object_watch.proofs.pass.pass_ends.Goals as goal

pub loop-end-init : goal.loop-end-init
loop-end-init g c = (
  c.requires,
  led_same g.O.Object.after c.args.held.items,
  λ opening log moment le w. rises_first g.O.Object.after opening log moment c.args.last c.args.held.items le w,
)

pub pass-requires : goal.pass-requires
pass-requires g c = none_ahead c.in-Some.end.at c.loop-end.held.items next.first c.loop-end.invariant.0
  where
    Q : Option (End g.row.O-What.Denot) → Type 0
    Q z = IfSome z (IsSoonestEnd c.args.last c.as_slice.result.now)

    P : List (Remainder g.row.O.Denot g.row.O-What.Denot) → Type 0
    P z = IsSoonestEnd c.args.last z c.in-Some.end

    next : IsSoonestEnd c.args.last c.loop-end.held.items c.in-Some.end
    next = subst P c.as_slice.ensures.value (subst Q c.in-Some.is c.next_end.ensures.some)

pub returns-in-None-clause-passed : goal.returns-in-None-clause-passed
returns-in-None-clause-passed g c opening log moment le w =
    rises_too_many g.O.Object.after opening log moment c.args.last c.loop-end.held.items
    (c.loop-end.invariant.2 opening log moment le w) c.in-Some.end next
  where
    Q : Option (End g.row.O-What.Denot) → Type 0
    Q z = IfSome z (IsSoonestEnd c.args.last c.as_slice.result.now)

    P : List (Remainder g.row.O.Denot g.row.O-What.Denot) → Type 0
    P z = IsSoonestEnd c.args.last z c.in-Some.end

    next : IsSoonestEnd c.args.last c.loop-end.held.items c.in-Some.end
    next = subst P c.as_slice.ensures.value (subst Q c.in-Some.is c.next_end.ensures.some)

pub returns-then-is_empty-clause-passed : goal.returns-then-is_empty-clause-passed
returns-then-is_empty-clause-passed g c opening log moment le w =
    rises_lost g.O.Object.after opening log moment c.args.last c.loop-end.held.items
    (c.loop-end.invariant.2 opening log moment le w) c.in-Some.end next c.in-Some-2.kept.items left nothing
  where
    Q : Option (End g.row.O-What.Denot) → Type 0
    Q z = IfSome z (IsSoonestEnd c.args.last c.as_slice.result.now)

    P : List (Remainder g.row.O.Denot g.row.O-What.Denot) → Type 0
    P z = IsSoonestEnd c.args.last z c.in-Some.end

    next : IsSoonestEnd c.args.last c.loop-end.held.items c.in-Some.end
    next = subst P c.as_slice.ensures.value (subst Q c.in-Some.is c.next_end.ensures.some)

    R : Option (Vec (Remainder g.row.O.Denot g.row.O-What.Denot) Global) → Type 0
    R z = IfSome z (λ kept. AreLeftBehind g.O.Object.after c.in-Some.end.at c.loop-end.held.items kept.items)

    left : AreLeftBehind g.O.Object.after c.in-Some.end.at c.loop-end.held.items c.in-Some-2.kept.items
    left = subst R c.in-Some-2.is c.in_ok-kept.ensures

    nothing : length c.in-Some-2.kept.items ≤ 0
    nothing = let e = c.is_empty.ensures in let f = c.if-is_empty.true in let k = c.in-Some-2.kept.ok in search (e, f, k, rules)

pub loop-end-smaller : goal.loop-end-smaller
loop-end-smaller g c =
    let x = next.of in
    let high = soonest_high c.args.last c.loop-end.held.items c.in-Some.end.at (
      x.0,
      x.1,
      x.3.0,
      x.2,
      (
        c.in-Some.end.op,
        x.3.1,
        next.ends,
      ),
    ) in
    let by = next.by in
    let low = soonest_low c.args.last (c.in-Some.end.at + 1) c.in-Some-2.kept.items left.ahead (omega (arith, by)) in
    omega (arith, high, low, by)
  where
    Q : Option (End g.row.O-What.Denot) → Type 0
    Q z = IfSome z (IsSoonestEnd c.args.last c.as_slice.result.now)

    P : List (Remainder g.row.O.Denot g.row.O-What.Denot) → Type 0
    P z = IsSoonestEnd c.args.last z c.in-Some.end

    next : IsSoonestEnd c.args.last c.loop-end.held.items c.in-Some.end
    next = subst P c.as_slice.ensures.value (subst Q c.in-Some.is c.next_end.ensures.some)

    R : Option (Vec (Remainder g.row.O.Denot g.row.O-What.Denot) Global) → Type 0
    R z = IfSome z (λ kept. AreLeftBehind g.O.Object.after c.in-Some.end.at c.loop-end.held.items kept.items)

    left : AreLeftBehind g.O.Object.after c.in-Some.end.at c.loop-end.held.items c.in-Some-2.kept.items
    left = subst R c.in-Some-2.is c.in_ok-kept.ensures

pub loop-end-preserved : goal.loop-end-preserved
loop-end-preserved g c = (
  ahead_at_all 0 (c.in-Some.end.at + 1) c.in-Some-2.kept.items (omega arith) left.ahead,
  led_more g.O.Object.after c.args.held.items c.loop-end.held.items c.loop-end.invariant.1 c.in-Some-2.kept.items left.of,
  λ opening log moment le w. rises_more g.O.Object.after opening log moment c.args.last c.loop-end.held.items
      (c.loop-end.invariant.2 opening log moment le w) c.in-Some.end next c.in-Some-2.kept.items left some,
)
  where
    Q : Option (End g.row.O-What.Denot) → Type 0
    Q z = IfSome z (IsSoonestEnd c.args.last c.as_slice.result.now)

    P : List (Remainder g.row.O.Denot g.row.O-What.Denot) → Type 0
    P z = IsSoonestEnd c.args.last z c.in-Some.end

    next : IsSoonestEnd c.args.last c.loop-end.held.items c.in-Some.end
    next = subst P c.as_slice.ensures.value (subst Q c.in-Some.is c.next_end.ensures.some)

    R : Option (Vec (Remainder g.row.O.Denot g.row.O-What.Denot) Global) → Type 0
    R z = IfSome z (λ kept. AreLeftBehind g.O.Object.after c.in-Some.end.at c.loop-end.held.items kept.items)

    left : AreLeftBehind g.O.Object.after c.in-Some.end.at c.loop-end.held.items c.in-Some-2.kept.items
    left = subst R c.in-Some-2.is c.in_ok-kept.ensures

    some : 0 < length c.in-Some-2.kept.items
    some = let e = c.is_empty.ensures in let f = c.if-is_empty.false in let k = c.in-Some-2.kept.ok in search (e, f, k, rules)

pub returns-clause-ahead : goal.returns-clause-ahead
returns-clause-ahead g c = none_ahead (c.args.last + 1) c.loop-end.held.items none c.loop-end.invariant.0
  where
    Q : Option (End g.row.O-What.Denot) → Type 0
    Q z = IfNone z (NoneIsOverBefore (c.args.last + 1) c.as_slice.result.now)

    P : List (Remainder g.row.O.Denot g.row.O-What.Denot) → Type 0
    P z = NoneIsOverBefore (c.args.last + 1) z

    none : NoneIsOverBefore (c.args.last + 1) c.loop-end.held.items
    none = subst P c.as_slice.ensures.value (subst Q c.in_default.is c.next_end.ensures.none)

pub returns-clause-passed : goal.returns-clause-passed
returns-clause-passed g c opening log moment le w =
    rises_done g.O.Object.after opening log moment c.args.last c.loop-end.held.items
    (c.loop-end.invariant.2 opening log moment le w) none c.loop-end.invariant.0
  where
    Q : Option (End g.row.O-What.Denot) → Type 0
    Q z = IfNone z (NoneIsOverBefore (c.args.last + 1) c.as_slice.result.now)

    P : List (Remainder g.row.O.Denot g.row.O-What.Denot) → Type 0
    P z = NoneIsOverBefore (c.args.last + 1) z

    none : NoneIsOverBefore (c.args.last + 1) c.loop-end.held.items
    none = subst P c.as_slice.ensures.value (subst Q c.in_default.is c.next_end.ensures.none)
