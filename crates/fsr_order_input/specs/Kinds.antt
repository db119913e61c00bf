-- Which documents are logs in lines (this project's own).
use Rattle.std.specs.Prelude.{ℕ, List, [], ◌∷◌, Bool, false}
use Rattle.read_document.specs.Kinds.{is_header}
use Rattle.text_lines.specs.Splits.{lines_of}

-- the first of these lines is a header
abbrev pub first_is_header : List (List ℕ) → Bool
first_is_header [] = false
first_is_header (first ∷ lines) = is_header first

-- the first line is a header of kind `lines`
abbrev pub are_lines : List ℕ → Bool
are_lines bytes = first_is_header (lines_of bytes)
