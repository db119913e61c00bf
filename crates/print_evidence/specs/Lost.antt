-- What is printed of a log that is lost at the end of an operation (this project's own).
use Rattle.std.specs.Prelude.{ℕ, ◌++◌, List, [], codes, slice_get, unwrap_or}
use Rattle.text_lines.specs.Places.{line_at}
use Rattle.reason_sentences.specs.Numbers.{number_text}
use Rattle.print_reasons.specs.Text.{body_of, line_text}

-- the line of the operation at a place
abbrev pub line_in : List ℕ → ℕ → List ℕ
line_in bytes place = unwrap_or (slice_get (body_of bytes) place) []

abbrev pub head_text : ℕ → List ℕ
head_text place = number_text (codes "unlawful lost ") (line_at place) ++ codes "\n"

abbrev pub sentence_text : ℕ → ℕ → List ℕ
sentence_text place end =
    number_text (codes "Up to the end of line ") (line_at place) ++ number_text (codes ", at ") end
    ++ codes ", no order of the operations is lawful.\n"

-- the line at which the log is lost, as it stands there, and when it ends
abbrev pub lost_text : List ℕ → ℕ → ℕ → List ℕ
lost_text bytes place end = head_text place ++ line_text place (line_in bytes place) ++ sentence_text place end
