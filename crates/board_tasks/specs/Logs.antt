-- Scripts and their logs (this project's own).
use Rattle.std.specs.Prelude.{◌≡◌, Bool, IsTrue, true, not, ℕ, ◌<◌, ◌≤◌, List, length, map, take, slice_get, Some}
use Rattle.history_core.specs.declared.wish.Wish.{Wish}
use Rattle.history_core.specs.declared.wish.Wish.TheVariants.{Write, Read}
use Rattle.matrix_core.specs.declared.stamp.Stamp.{Stamp}
use Rattle.matrix_core.specs.Stamps.{is_below}
use Rattle.board_tasks.specs.declared.lane.Reply.{Reply}
use Rattle.board_tasks.specs.declared.lane.Reply.TheVariants.{Written, Seen, Ended}
use Rattle.board_tasks.specs.declared.lane.Entry.{Entry}

-- the item that is to be written obeys its law
abbrev pub wish_obeys : {V : Type 0} → (V → Bool) → Wish V → Bool
wish_obeys obeys (Write item) = obeys item
wish_obeys obeys Read = true

abbrev pub Obeys : {V : Type 0} → (V → Bool) → Wish V → Type 0
Obeys obeys wish = IsTrue (wish_obeys obeys wish)

-- the stamp of the record that a call handed on
abbrev pub stamp_of : {V : Type 0} → Reply V → Stamp
stamp_of (Written s) = s
stamp_of (Seen p) = p.stamp
stamp_of (Ended p) = p.stamp

-- the first stamp isn't above the second
abbrev pub is_at_most : Stamp → Stamp → Bool
is_at_most a b = not (is_below b a)

-- a log of a script: its wishes are those that the script begins with, and its stamps never
-- fall and are at most this one
pub record IsLogOfScript {V : Type 0} (script : List (Wish V)) (log : List (Entry V)) (own : Stamp) : Type 0 where
  pub wishes : map (λ e. e.wish) log ≡ take (length log) script
  pub within : length log ≤ length script
  pub rising : (j k : ℕ) (e f : Entry V) → j < k → slice_get log j ≡ Some e → slice_get log k ≡ Some f
      → is_at_most (stamp_of e.reply) (stamp_of f.reply) ≡ true
  pub below : (j : ℕ) (e : Entry V) → slice_get log j ≡ Some e → is_at_most (stamp_of e.reply) own ≡ true
