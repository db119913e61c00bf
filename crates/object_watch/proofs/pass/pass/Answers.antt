-- One more is visited, and at last all are.
use Rattle.std.proofs.Common.{◌≡◌, ℕ, ◌≤◌, List, [], length, slice_get, Some, sym, ◌∙◌, ap, subst, arith}
use Rattle.object_watch.specs.declared.remainder.Remainder.{Remainder}
use Rattle.object_watch.specs.inner.Levels.{IsCopiedAt}
use Rattle.object_watch.proofs.Passing.{passing_all, passing_more, passing_none}
use Rattle.object_watch.proofs.pass.pass.Goals as goal

pub loop-next-init : goal.loop-next-init
loop-next-init g c = passing_none g.O.Object.after c.args.end c.args.held.items c.new-kept.result.items none c.requires
  where
    none : (i : ℕ) (one : Remainder g.row.O.Denot g.row.O-What.Denot) → slice_get c.new-kept.result.items i ≡ Some one → ⊥
    none i one e = let f : slice_get [] i ≡ Some one = ap (λ zs. slice_get zs i) (sym c.new-kept.ensures.items) ∙ e in cc

pub loop-next-preserved : goal.loop-next-preserved
loop-next-preserved g c =
    let P : List (Remainder g.row.O.Denot g.row.O-What.Denot) → Type 0 = λ z. IsCopiedAt z c.loop-next.next c.in_ok-from.from in
    passing_more g.O.Object.after c.args.end c.args.held.items c.loop-next.next c.loop-next.seen.items c.loop-next.kept.items
    c.visit.new.seen.items c.visit.new.kept.items c.loop-next.invariant c.in_ok-from.from
    (subst P c.as_slice.ensures.value c.in_ok-from.ensures) c.in_ok-visit.ensures

pub returns : goal.returns
returns g c = passing_all g.O.Object.after c.args.end c.args.held.items c.loop-next.next c.loop-next.seen.items c.loop-next.kept.items
    c.loop-next.invariant all
  where
    all : length c.loop-next.seen.items ≤ c.loop-next.next
    all = let e = c.len.ensures in let l = c.loop-next-test.false in let k = c.loop-next.seen.ok in omega (arith, e, l, k)
