-- No operation met so far ends before it begins.
use Rattle.history_core.specs.Searches.{AreForwards}
use Rattle.history_search.proofs.find.first_backwards.Given as goal

abbrev pub invariant-loop-place : goal.invariant-loop-place
invariant-loop-place g l = AreForwards l.ops l.place
