-- A place in a log by its stamp, which only the private functions of `origin` cite (this project's own).
use Rattle.std.specs.Prelude.{◌≡◌, false, true, ℕ, ◌<◌, ◌≤◌, List, length, slice_get, Some}
use Rattle.matrix_core.specs.declared.stamp.Stamp.{Stamp}
use Rattle.matrix_core.specs.Stamps.{is_below}
use Rattle.board_tasks.specs.declared.lane.Entry.{Entry}
use Rattle.board_tasks.specs.Logs.{stamp_of}

module _ {V : Type 0} (log : List (Entry V)) (stamp : Stamp) where
  -- the entries before the one place have stamps below this one, and those from the other place on have not
  pub record AreParted (low high : ℕ) : Type 0 where
    pub inside : (low ≤ high) × (high ≤ length log)
    pub below : (j : ℕ) (e : Entry V) → j < low → slice_get log j ≡ Some e → is_below (stamp_of e.reply) stamp ≡ true
    pub from : (j : ℕ) (e : Entry V) → high ≤ j → slice_get log j ≡ Some e → is_below (stamp_of e.reply) stamp ≡ false

  -- the first place whose stamp isn't below this one
  abbrev pub IsFirstFrom : ℕ → Type 0
  IsFirstFrom place = AreParted place place
