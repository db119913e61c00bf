-- No record met so far is above.
use Rattle.std.proofs.Common.{◌≡◌, ◌<◌, ◌≤◌, ℕ, slice_get, Some}
use Rattle.history_core.specs.declared.history.Op.{Op}
use Rattle.history_coherence.proofs.key.greatest_record.Given as goal

abbrev pub invariant-loop-op : goal.invariant-loop-op
invariant-loop-op l = (p x : ℕ) (o : Op ℕ) → p < l.op-index → slice_get l.log p ≡ Some o → o.item ≡ Some x → x ≤ l.greatest
