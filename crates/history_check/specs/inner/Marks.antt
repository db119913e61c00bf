-- A list of marks, for the places of one block: the check of listing. Only its private functions cite this, which is
-- this project's own; the meaning of listing stands in history_core's Orders.
use Rattle.std.specs.Prelude.{◌≡◌, ℕ, ◌+◌, ◌<◌, Bool, true, false, List, length, get_or, nat_eq, if◌then◌else◌}

abbrev pub HasMark : List Bool → ℕ → Type 0
HasMark marks k = (k < length marks) × (get_or marks k false ≡ true)

-- how often the place with mark k was met, at most once
abbrev pub times_marked : List Bool → ℕ → ℕ
times_marked marks k = if get_or marks k false then 1 else 0

-- the mark of place is new, and no other changes; a place of another block changes none
abbrev pub AddsMark : List Bool → List Bool → ℕ → ℕ → Type 0
AddsMark old new base place =
    (k : ℕ) → k < length old → times_marked new k ≡ times_marked old k + (if nat_eq place (base + k) then 1 else 0)
