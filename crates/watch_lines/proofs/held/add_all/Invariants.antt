-- Those that the operations before this place name are there.
use Rattle.watch_lines.specs.Kept.{AddsTo}
use Rattle.watch_lines.proofs.KeptLemmas.{AreNamingBefore}
use Rattle.watch_lines.proofs.held.add_all.Given as goal

abbrev pub invariant-loop-i : goal.invariant-loop-i
invariant-loop-i l = AddsTo l.fn.numbers l.numbers (AreNamingBefore l.ops l.i)
