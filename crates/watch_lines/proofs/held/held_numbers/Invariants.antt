-- The numbers of those before this place are there.
use Rattle.watch_lines.specs.Kept.{AddsTo}
use Rattle.watch_lines.proofs.KeptLemmas.{IsHeldBefore}
use Rattle.watch_lines.proofs.held.held_numbers.Given as goal

abbrev pub invariant-loop-i : goal.invariant-loop-i
invariant-loop-i l = AddsTo l.initial.numbers l.numbers (IsHeldBefore l.held l.i)
