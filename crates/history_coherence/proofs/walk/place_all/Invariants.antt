-- The records met so far are placed.
use Rattle.std.proofs.Common.{◌≡◌, ◌<◌, ℕ, [], length, slice_get, Some}
use Rattle.history_coherence.specs.declared.walk.Mark.TheVariants.{Placed}
use Rattle.history_coherence.specs.inner.Walks.{IsWalking}
use Rattle.history_coherence.proofs.walk.place_all.Given as goal

abbrev pub invariant-loop-number : goal.invariant-loop-number
invariant-loop-number l = record {
  walking : IsWalking l.tables l.walk;
  empty : l.walk.path.items ≡ [];
  long : length l.walk.marks.items ≡ length l.fn.walk.marks.items;
  placed : (x : ℕ) → x < l.number → (rank : ℕ) × (slice_get l.walk.marks.items x ≡ Some (Placed rank));
}
