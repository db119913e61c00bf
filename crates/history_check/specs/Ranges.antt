-- Places from a first one up to a next one, as those of a term, and the writes among them. This is this project's own;
-- the meaning of a lawful refusal stands in history_core's Orders.
use Rattle.std.specs.Prelude.{◌≡◌, ℕ, ◌+◌, ◌≤◌, Bool, true, ◌&&◌, nat_le, nat_lt, if◌then◌else◌}
use Rattle.history_core.specs.declared.history.Kind.{Kind}
use Rattle.history_core.specs.declared.history.Kind.TheVariants.{Refused}
use Rattle.history_core.specs.Orders.{is_write}

abbrev pub is_between : ℕ → ℕ → ℕ → Bool
is_between first next p = nat_le first p && nat_lt p next

-- the count of writes after an operation of this kind, which counts if it is a write within
abbrev pub writes_after : Bool → Kind → ℕ → ℕ
writes_after within kind writes = writes + (if within && is_write kind then 1 else 0)

-- a refused write within has at least the limit in writes before it
abbrev pub MayRefuse : Bool → Kind → ℕ → ℕ → Type 0
MayRefuse within kind limit writes = within ≡ true → kind ≡ Refused → limit ≤ writes
