-- The order so far has the reads passed and the writes up to the last read's number; the numbers of the reads never fall.
use Rattle.std.proofs.Common.{◌≡◌, ℕ, ◌<◌, ◌≤◌, length, slice_get, Some}
use Rattle.four_slot_play.specs.declared.player.run.Numbered.{Numbered}
use Rattle.four_slot_play.specs.inner.Weaves.{IsWeave}
use Rattle.four_slot_play.proofs.player.order.weave.Given as goal

abbrev pub invariant-loop-number : goal.invariant-loop-number
invariant-loop-number g l = record {
  weave : IsWeave l.writes l.reads l.answers l.next l.number l.order.items;
  low : (k : ℕ) (a : Numbered g.row.R.Denot) → k < l.number → slice_get l.answers k ≡ Some a → a.number ≤ l.next;
  high : (k : ℕ) (a : Numbered g.row.R.Denot) → l.number ≤ k → slice_get l.answers k ≡ Some a → l.next ≤ a.number;
  within : l.next ≤ length l.writes;
}
