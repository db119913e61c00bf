-- Whether the header of a log says that its records repeat (this project's own).
use Rattle.std.specs.Prelude.{ℕ, List, [], ◌∷◌, codes, Bool, false, ◌&&◌, unwrap_or, Option, option_and_then}
use Rattle.std.specs.Prelude.{Result, Ok, Err}
use Rattle.serde_json.specs.Data.{Data}
use Rattle.serde_json.specs.Find.{as_bool, get}
use Rattle.read_document.specs.declared.refusal.DocError.{DocError}
use Rattle.read_document.specs.Document.{is_kind, value_of}
use Rattle.text_lines.specs.Splits.{lines_of}

-- only the value `true` means it
abbrev pub is_true : Option Data → Bool
is_true found = unwrap_or (option_and_then as_bool found) false

abbrev pub repeats_in : Data → Bool
repeats_in d = is_kind (codes "lines") d && is_true (get (codes "repeats") d)

abbrev pub repeats_said : Result Data DocError → Bool
repeats_said (Ok d) = repeats_in d
repeats_said (Err why) = false

-- the line is the header of a log whose records repeat
abbrev pub says_repeats : List ℕ → Bool
says_repeats line = repeats_said (value_of line)

-- the first of these lines is the header of a log whose records repeat
abbrev pub first_repeats : List (List ℕ) → Bool
first_repeats [] = false
first_repeats (first ∷ lines) = says_repeats first

abbrev pub has_repeats : List ℕ → Bool
has_repeats bytes = first_repeats (lines_of bytes)
