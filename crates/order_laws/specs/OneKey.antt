-- Logs whose operations have one key (this project's own).
use Rattle.std.specs.Prelude.{◌≡◌, ℕ, List, ◌∷◌, true, slice_get, Some, Ok}
use Rattle.text_lines.specs.Splits.{lines_of}
use Rattle.read_line.specs.Lines.{entry_of, KeyedOp, operation}
use Rattle.lines_log.specs.Logs.{first_key, same_key, text_of}

-- each operation of this text has the key of the first, or none if that has none
abbrev pub AreOfOneKey : List ℕ → Type 0
AreOfOneKey bytes = (header : List ℕ) (body : List (List ℕ)) → lines_of (text_of bytes) ≡ header ∷ body →
    (i : ℕ) (line : List ℕ) (o : KeyedOp) → slice_get body i ≡ Some line → entry_of line ≡ Ok (operation o) →
    same_key (first_key body) o.key ≡ true
