-- Which lines are headers of logs in lines (this project's own).
use Rattle.std.specs.Prelude.{ℕ, List, codes, Bool, false, Result, Ok, Err}
use Rattle.serde_json.specs.Data.{Data}
use Rattle.read_document.specs.declared.refusal.DocError.{DocError}
use Rattle.read_document.specs.Document.{is_kind, value_of}

abbrev pub says_lines : Result Data DocError → Bool
says_lines (Ok d) = is_kind (codes "lines") d
says_lines (Err why) = false

-- a header is a line of this kind, which has no more bytes than any line
abbrev pub is_header : List ℕ → Bool
is_header line = says_lines (value_of line)
