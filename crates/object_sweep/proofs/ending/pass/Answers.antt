-- All is explored, or there are too many.
use Rattle.std.proofs.Common.{Bool, subst, true}
use Rattle.object_sweep.specs.inner.Steps.{sure_at, IsClosed}
use Rattle.object_sweep.proofs.Adding.{passed, passed_in_order, too_many}
use Rattle.object_sweep.proofs.ending.pass.Goals as goal

pub returns-then-branch-clause-passed : goal.returns-then-branch-clause-passed
returns-then-branch-clause-passed g c =
    let P : Bool → Type 0 = λ b. IsClosed (sure_at c.args.log.now) g.O.Object.after c.args.log.now c.args.under_way.now c.args.ending
    c.args.budget
    c.in_ok-sets.sets.waiting.items c.in_ok-sets.sets.kept.items c.close.new.sets.waiting.items c.close.new.sets.kept.items b in
    passed_in_order g.O.Object.after c.args.log.now c.args.under_way.now c.args.ending c.args.configurations.now c.close.new.sets.kept.items
    c.fewest_placed_first.result.items c.fewest_placed_first.ensures true
    (passed g.O.Object.after c.args.log.now c.args.under_way.now c.args.ending c.args.configurations.now c.in_ok-sets.sets.waiting.items
    c.in_ok-sets.sets.kept.items c.close.new.sets.waiting.items c.close.new.sets.kept.items c.in_ok-sets.ensures
    (subst P c.if-branch.true c.in_ok-close.ensures))

pub returns-else-branch-clause-many : goal.returns-else-branch-clause-many
returns-else-branch-clause-many g c =
    let P : Bool → Type 0 = λ b. IsClosed (sure_at c.args.log.now) g.O.Object.after c.args.log.now c.args.under_way.now c.args.ending
    c.args.budget
    c.in_ok-sets.sets.waiting.items c.in_ok-sets.sets.kept.items c.close.new.sets.waiting.items c.close.new.sets.kept.items b in
    let h = subst P c.if-branch.false c.in_ok-close.ensures in
    too_many g.O.Object.after c.args.log.now c.args.under_way.now c.args.ending c.args.budget h.0 c.args.configurations.now
    c.in_ok-sets.sets.waiting.items c.in_ok-sets.sets.kept.items c.close.new.sets.waiting.items c.close.new.sets.kept.items
    c.in_ok-sets.ensures h.1 h.2
