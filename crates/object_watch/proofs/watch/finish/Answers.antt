-- All ends are passed, or one at which that isn't known any more.
use Rattle.std.proofs.Common.{◌≡◌, ℕ, ◌+◌, ◌≤◌, List, length, Some, subst, arith}
use Rattle.std.proofs.lemmas.Option.{slice_get_within}
use Rattle.object_core.specs.declared.operation.Operation.{Operation}
use Rattle.object_watch.specs.Remainders.{IsOfOne}
use Rattle.object_watch.specs.declared.pass.Passed.{Passed}
use Rattle.object_watch.specs.declared.remainder.Remainder.{Remainder}
use Rattle.object_watch.specs.inner.Levels.{IsLatest}
use Rattle.object_watch.specs.inner.Passes.{ArePassed, IsOfPassed}
use Rattle.object_watch.proofs.Finishing.{finished, lost_whole}
use Rattle.object_watch.proofs.watch.finish.Goals as goal

pub returns-in-Open : goal.returns-in-Open
returns-in-Open g c opening log w =
    let h = subst P c.in-Open.is (c.in_ok-_held.ensures.passed opening log c.args.watch.moment high w) in
    finished g.O.Object.after opening log c.latest_end-last.result c.args.watch.held.items c.in-Open._held.items h.0
    (subst (IsOfPassed g.O.Object.after c.args.watch.held.items) c.in-Open.is c.in_ok-_held.ensures.of).operations ends
  where
    L : List (Remainder g.row.O.Denot g.row.O-What.Denot) → Type 0
    L z = IsLatest (length z) z c.args.watch.moment c.latest_end-last.result

    latest : IsLatest (length c.args.watch.held.items) c.args.watch.held.items c.args.watch.moment c.latest_end-last.result
    latest = subst L c.as_slice.ensures.value c.latest_end-last.ensures

    high : c.args.watch.moment ≤ c.latest_end-last.result + 1
    high = let l = latest.above in omega (arith, l)

    P : Passed g.row.O.Denot g.row.O-What.Denot → Type 0
    P z = ArePassed g.O.Object.after opening log c.args.watch.moment c.latest_end-last.result z

    ends : (at : ℕ) (o : Operation g.row.O-What.Denot) → IsOfOne c.args.watch.held.items o → o.ends ≡ Some at →
        at ≤ c.latest_end-last.result
    ends at o (i, one, e, x) f = latest.each i x.0 at one o (slice_get_within c.args.watch.held.items i one e) e x.1 f

pub returns-in-Lost : goal.returns-in-Lost
returns-in-Lost g c opening log w =
    let h = subst P c.in-Lost.is (c.in_ok-_held.ensures.passed opening log c.args.watch.moment high w) in
    (h.1, lost_whole g.O.Object.after opening log c.in-Lost.at h.1.lost)
  where
    L : List (Remainder g.row.O.Denot g.row.O-What.Denot) → Type 0
    L z = IsLatest (length z) z c.args.watch.moment c.latest_end-last.result

    latest : IsLatest (length c.args.watch.held.items) c.args.watch.held.items c.args.watch.moment c.latest_end-last.result
    latest = subst L c.as_slice.ensures.value c.latest_end-last.ensures

    high : c.args.watch.moment ≤ c.latest_end-last.result + 1
    high = let l = latest.above in omega (arith, l)

    P : Passed g.row.O.Denot g.row.O-What.Denot → Type 0
    P z = ArePassed g.O.Object.after opening log c.args.watch.moment c.latest_end-last.result z

pub returns-in-TooMany : goal.returns-in-TooMany
returns-in-TooMany g c opening log w = (subst P c.in-TooMany.is (c.in_ok-_held.ensures.passed opening log c.args.watch.moment high w)).1
  where
    L : List (Remainder g.row.O.Denot g.row.O-What.Denot) → Type 0
    L z = IsLatest (length z) z c.args.watch.moment c.latest_end-last.result

    latest : IsLatest (length c.args.watch.held.items) c.args.watch.held.items c.args.watch.moment c.latest_end-last.result
    latest = subst L c.as_slice.ensures.value c.latest_end-last.ensures

    high : c.args.watch.moment ≤ c.latest_end-last.result + 1
    high = let l = latest.above in omega (arith, l)

    P : Passed g.row.O.Denot g.row.O-What.Denot → Type 0
    P z = ArePassed g.O.Object.after opening log c.args.watch.moment c.latest_end-last.result z
