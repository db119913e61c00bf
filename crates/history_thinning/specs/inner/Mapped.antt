-- The places in the log of kept operations. Only private functions cite this, which is this project's own.
use Rattle.std.specs.Prelude.{◌≡◌, ℕ, ◌<◌, true, List, length, take, slice_get, Option, None, Some}
use Rattle.history_core.specs.declared.history.Op.{Op}
use Rattle.history_core.specs.Orders.{is_write_at, writes_in}
use Rattle.history_core.specs.declared.reason.Reason.{Reason}
use Rattle.history_core.specs.declared.reason.Reason.TheVariants.{Unwritten, Early, Stale, Crossed, Limit}

abbrev pub found_or : Option ℕ → ℕ → ℕ
found_or None kept = kept
found_or (Some place) kept = place

-- the place of a kept operation in the log
abbrev pub place_in : List ℕ → ℕ → ℕ
place_in places kept = found_or (slice_get places kept) kept

abbrev pub reason_in : List ℕ → Reason → Reason
reason_in places (Unwritten read) = Unwritten (place_in places read)
reason_in places (Early read write) = Early (place_in places read) (place_in places write)
reason_in places (Stale before read) = Stale (place_in places before) (place_in places read)
reason_in places (Crossed a b c d) = Crossed (place_in places a) (place_in places b) (place_in places c)
    (place_in places d)
reason_in places (Limit refused) = Limit (place_in places refused)

-- the places in the log of the writes among the first n entries of an order of kept operations
pub record AreWritePlaces (ops : List (Op ℕ)) (places order : List ℕ) (n : ℕ) (writes : List ℕ) : Type 0 where
  pub long : length writes ≡ writes_in (λ _. true) ops (take n order)
  pub listed : (i p : ℕ) → i < n → slice_get order i ≡ Some p → is_write_at (slice_get ops p) ≡ true →
      slice_get writes (writes_in (λ _. true) ops (take i order)) ≡ Some (place_in places p)
