-- One that is held can do all that it can, or it is pushed.
use Rattle.std.proofs.Common.{◌≡◌, true, false, sym, subst, Bool}
use Rattle.object_sweep.specs.inner.Steps.{IsCovered, sure_at}
use Rattle.object_sweep.proofs.Adding.{added_held, added_push, as_held, covered_as, held_covers}
use Rattle.object_sweep.proofs.held.add.Goals as goal

pub returns-then-is_covered : goal.returns-then-is_covered
returns-then-is_covered g c =
    added_held (sure_at c.args.log.now) c.args.held.now.items c.args.state c.args.placed.items
    (covered_as (sure_at c.args.log.now) c.args.held.now.items c.new-one.result c.args.state c.args.placed.items c.new-one.ensures
    (subst (λ z. IsCovered (sure_at c.args.log.now) z c.new-one.result.state c.new-one.result.placed.items) c.as_slice.ensures.value
    (c.is_covered.ensures.0 c.if-is_covered.true)))

pub returns : goal.returns
returns g c =
    rw c.in_ok-push.ensures.items (added_push (sure_at c.args.log.now) c.args.held.now.items c.args.state c.args.placed.items
    c.new-one.result
    (λ h. never (c.is_covered.ensures.1 (subst (λ z. IsCovered (sure_at c.args.log.now) z c.new-one.result.state
    c.new-one.result.placed.items) (sym c.as_slice.ensures.value)
    (held_covers (sure_at c.args.log.now) c.args.held.now.items c.new-one.result.state c.new-one.result.placed.items
    (as_held c.args.held.now.items c.new-one.result c.args.state c.args.placed.items c.new-one.ensures h))))
    c.if-is_covered.false)
    c.new-one.ensures)
  where
    never : {b : Bool} → b ≡ true → b ≡ false → ⊥
    never e f = cc
