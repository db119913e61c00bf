-- What was added so far is reached.
use Rattle.object_sweep.specs.inner.Steps.{AddsReached}
use Rattle.object_sweep.proofs.narrow.explore_wanted.Given as goal

abbrev pub invariant-loop-place : goal.invariant-loop-place
invariant-loop-place g l = AddsReached g.O.Object.after l.log l.under_way l.ending l.from.state l.from.placed.items
    l.fn.sets.waiting.items l.fn.sets.kept.items l.sets.waiting.items l.sets.kept.items
