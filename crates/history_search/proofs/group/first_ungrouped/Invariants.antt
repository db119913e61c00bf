-- Each finished operation met so far has a group.
use Rattle.history_search.specs.inner.Groups.{HaveGroups}
use Rattle.history_search.proofs.group.first_ungrouped.Given as goal

abbrev pub invariant-loop-place : goal.invariant-loop-place
invariant-loop-place g l = HaveGroups l.ops l.groups l.place
