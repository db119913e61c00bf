-- The operations that are kept of a log, by their places and records (this project's own).
use Rattle.std.specs.Prelude.{ℕ, ◌==◌, ◌&&◌, List, Bool, false, nat_eq, Option, None, Some}
use Rattle.std.specs.List.{position_or_len}
use Rattle.history_core.specs.Orders.{is_write}
use Rattle.history_core.specs.declared.history.Op.{Op}

-- which of the kept operations is the one at this place of the log
abbrev pub kept_at : List ℕ → ℕ → ℕ
kept_at places place = position_or_len (λ p. p == place) places

-- a record is this one
abbrev pub is_item : ℕ → Option ℕ → Bool
is_item x None = false
is_item x (Some y) = nat_eq x y

-- an operation writes this record
abbrev pub writes : ℕ → Op ℕ → Bool
writes item o = is_write o.kind && is_item item o.item
