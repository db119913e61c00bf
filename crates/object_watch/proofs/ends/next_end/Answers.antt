-- The soonest end, and an operation that has it.
use Rattle.std.proofs.Common.{ℕ, length, Option, Some, refl, subst}
use Rattle.object_core.specs.declared.operation.Operation.{Operation}
use Rattle.object_watch.specs.inner.Levels.{IsEndingIn, IsSoonestBelow}
use Rattle.object_watch.proofs.Soonest.{soonest_first}
use Rattle.object_watch.proofs.ends.next_end.Goals as goal

pub returns-clause-some : goal.returns-clause-some
returns-clause-some g c = record {
  by = (soonest.has c.in_ok-at.at refl).1;
  of = there.0;
  ends = there.1;
  first = soonest_first c.args.last c.args.held.now c.in_ok-at.at soonest;
}
  where
    P : Option ℕ → Type 0
    P z = IsSoonestBelow c.args.last (length c.args.held.now) c.args.held.now z

    soonest : IsSoonestBelow c.args.last (length c.args.held.now) c.args.held.now (Some c.in_ok-at.at)
    soonest = subst P c.in_ok-at.was c.soonest_end.ensures

    Q : Option (Operation g.row.W.Denot) → Type 0
    Q z = IsEndingIn c.args.held.now c.in_ok-at.at z

    there : IsEndingIn c.args.held.now c.in_ok-at.at (Some c.in_ok-op.op)
    there = subst Q c.in_ok-op.was c.ending_in.ensures
