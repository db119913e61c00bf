-- The first line of a text that goes on (this project's own).
use Rattle.std.specs.Prelude.{◌≡◌, ℕ, ◌<◌, ◌++◌, ◌∷◌, ◌==◌, List, length, None}
use Rattle.std.specs.List.{position}
use Rattle.text_lines.specs.Splits.{lines_of}

-- a line feed ends the first line, and this text is behind it, whatever comes then
pub record IsFirstLine (bytes line rest : List ℕ) : Type 0 where
  pub lines : (x : List ℕ) → lines_of (bytes ++ x) ≡ line ∷ lines_of (rest ++ x)
  pub shorter : length rest < length bytes

abbrev pub HasNoFeed : List ℕ → Type 0
HasNoFeed bytes = position (λ byte. byte == 10) bytes ≡ None
