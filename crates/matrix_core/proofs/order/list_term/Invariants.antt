-- The term's order goes behind that of the terms before, each place moved on by the operations before the term.
use Rattle.std.proofs.Common.{◌≡◌, ◌++◌, ◌+◌, map, take}
use Rattle.matrix_core.specs.declared.order.Listed.{Listed}
use Rattle.matrix_core.proofs.order.list_term.Given as goal

abbrev pub invariant-loop-entry : goal.invariant-loop-entry
invariant-loop-entry g l =
    l.order.items ≡ l.fn.order.items ++ map (λ p. l.first + p) (map (λ (e : Listed). e.place) (take l.entry-index l.entry-items))
