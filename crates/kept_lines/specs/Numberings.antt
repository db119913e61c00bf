-- What is asked of the records of a log that get numbers (this project's own).
use Rattle.std.specs.Prelude.{◌≡◌, ℕ, List, [], ◌∷◌, ◌++◌, ◌⊎◌, slice_get, Some}

-- no record stands twice among these
abbrev pub AreDistinct : List (List ℕ) → Type 0
AreDistinct records = (text : List ℕ) (m n : ℕ) → slice_get records m ≡ Some text →
    slice_get records n ≡ Some text → m ≡ n

-- a record was met: it is of these, or one more
abbrev pub MeetsRecord : List (List ℕ) → List ℕ → List (List ℕ) → Type 0
MeetsRecord records text after = (after ≡ records) ⊎ (after ≡ records ++ text ∷ [])
