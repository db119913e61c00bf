-- The last operation of a task beside the beginning of the next (this project's own).
use Rattle.std.specs.Prelude.{ℕ, Bool, false, nat_lt, if◌then◌else◌, Option, None, Some}
use Rattle.std.specs.Option.{option_map_or}
use Rattle.history_core.specs.declared.history.Op.{Op}
use Rattle.kept_lines.specs.declared.turns.Last.{Last}

abbrev pub ends_before : Option ℕ → ℕ → Bool
ends_before end begin = option_map_or (λ e. nat_lt e begin) end false

-- its place, where it hasn't ended before
abbrev pub overlapped : Option Last → ℕ → Option ℕ
overlapped None begin = None
overlapped (Some last) begin = if ends_before last.end begin then None else Some last.place

-- this operation at this place as the last
abbrev pub last_of : {R : Type 0} → Op R → ℕ → Last
last_of op place = record { end = op.ends; place = place }
