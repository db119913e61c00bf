-- Room for the seats of passes, which only private functions cite (this project's own).
use Rattle.std.specs.Prelude.{◌≡◌, ℕ, ◌+◌, ◌≤◌, List, [], ◌++◌, length, map, reverse, slice_get, Some, vec_capacity}
use Rattle.board_live.specs.declared.board.Pass.{Pass}

-- the last of the passes has room for the seats of all
abbrev pub HaveRoom : {V F S T : Type 0} → List (Pass V F S T) → Type 0
HaveRoom {V} {F} {S} {T} passes = (k : ℕ) (p : Pass V F S T) → slice_get passes k ≡ Some p → k + 1 ≡ length passes
    → (length passes ≤ vec_capacity p.room) × (p.room.items ≡ [])

-- all seats: those of the passes, and then those that were taken out, of which the last process's was the first
abbrev pub in_order : {V F S T : Type 0} → List (Pass V F S T) → List S → List S
in_order passes seats = map (λ p. p.seat) passes ++ reverse seats
