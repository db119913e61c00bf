-- Each turn pushes the item once more, so the list is the item as often as the turns passed.
use Rattle.std.proofs.Common.{◌≡◌, replicate}
use Rattle.matrix_core.proofs.progress.filled.Given as goal

abbrev pub invariant-loop-i : goal.invariant-loop-i
invariant-loop-i g l = l.items.items ≡ replicate l._i l.item
