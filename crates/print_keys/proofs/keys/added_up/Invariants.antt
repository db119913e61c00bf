-- The counts of the logs so far.
use Rattle.std.proofs.Common.{◌≡◌, take}
use Rattle.print_keys.specs.KeysText.{totals}
use Rattle.print_keys.proofs.keys.added_up.Given as goal

abbrev pub invariant-loop-one : goal.invariant-loop-one
invariant-loop-one l = l.sums ≡ totals (take l.one-index l.logs)
