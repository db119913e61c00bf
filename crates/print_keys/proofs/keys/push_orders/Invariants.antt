-- The orders of the keys so far.
use Rattle.std.proofs.Common.{◌≡◌, ◌++◌}
use Rattle.print_keys.specs.KeysText.{orders_text}
use Rattle.print_keys.proofs.keys.push_orders.Given as goal

abbrev pub invariant-loop-number : goal.invariant-loop-number
invariant-loop-number l = l.text.items ≡ l.initial.text.items ++ orders_text l.logs l.orders l.number
