-- Marks of places, as bits of a word: lists of places whose marks differ don't have the same places (this project's
-- own).
use Rattle.std.specs.Prelude.{ℕ, ◌%◌, ◌^◌, Bool, List, [], ◌∷◌, bit_or, cond}

abbrev pub mark_of : ℕ → ℕ
mark_of place = 2 ^ (place % 64)

-- all of these marks together
abbrev pub joined : (ℕ → ℕ) → List ℕ → ℕ
joined mark [] = 0
joined mark (place ∷ rest) = bit_or (mark place) (joined mark rest)

abbrev pub marks_of : List ℕ → ℕ
marks_of places = joined mark_of places

-- those of places that aren't sure
abbrev pub unsure_mark : (ℕ → Bool) → ℕ → ℕ
unsure_mark sure place = cond (sure place) 0 (mark_of place)
