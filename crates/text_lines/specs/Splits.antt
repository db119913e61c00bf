-- The lines of a text (this project's own).
use Rattle.std.specs.Prelude.{◌≡◌, ℕ, ◌<◌, List, [], ◌∷◌, length, ◌==◌, if◌then◌else◌}

-- the lines with one byte more in front of the first
abbrev pub in_front : ℕ → List (List ℕ) → List (List ℕ)
in_front byte [] = (byte ∷ []) ∷ []
in_front byte (line ∷ lines) = (byte ∷ line) ∷ lines

-- the lines, each without the line feed that ends it; the last one need not have one
abbrev pub lines_of : List ℕ → List (List ℕ)
lines_of [] = []
lines_of (byte ∷ bytes) = if byte == 10 then [] ∷ lines_of bytes else in_front byte (lines_of bytes)

-- the first line, and the text behind it
pub record IsSplit (bytes line rest : List ℕ) : Type 0 where
  pub lines : lines_of bytes ≡ line ∷ lines_of rest
  pub shorter : length rest < length bytes
