-- The words of a record, by which one knows its write (this project's own).
use Rattle.std.specs.Prelude.{◌≡◌, ℕ, ◌<◌, Bool, true, List, length, All, Option, Some, None}

-- the words of a whole record of the write with this number: there are some, and each is the number
pub record IsWholeRecord (words : List ℕ) (number : ℕ) : Type 0 where
  pub some : 0 < length words
  pub each : All (λ word. word ≡ number) words

-- the write that words are of; none where they are of no one write
abbrev pub AreOf : List ℕ → Option ℕ → Type 0
AreOf words (Some number) = IsWholeRecord words number
AreOf words None = (number : ℕ) → IsWholeRecord words number → ⊥

-- any item may stand
abbrev pub no_law : {X : Type 0} → X → Bool
no_law item = true
