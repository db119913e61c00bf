-- What is printed of an operation that can't have found its record (this project's own).
use Rattle.std.specs.Prelude.{ℕ, ◌++◌, List, codes, nat_lt, if◌then◌else◌}
use Rattle.history_core.specs.declared.reason.Reason.TheVariants.{Unwritten, Early}
use Rattle.text_lines.specs.Places.{line_at}
use Rattle.print_evidence.specs.Lost.{line_in}
use Rattle.reason_sentences.specs.Numbers.{number_text}
use Rattle.print_reasons.specs.Text.{line_text, reason_text}

abbrev pub of_line : ℕ → List ℕ → List ℕ
of_line place words = number_text (codes "Line ") (line_at place) ++ words

-- that the operation at a place found a record that no other one can leave
abbrev pub unwritten_lines : List ℕ → ℕ → List ℕ
unwritten_lines bytes place =
    reason_text (Unwritten place) ++ line_text place (line_in bytes place)
    ++ of_line place (codes " found a record that is neither the opening nor written by another line.\n")

-- the lines of two operations, as the log has them
abbrev pub shown_line : List ℕ → ℕ → List ℕ
shown_line bytes place = line_text place (line_in bytes place)

abbrev pub two_lines : List ℕ → ℕ → ℕ → List ℕ
two_lines bytes one other =
    if nat_lt other one then shown_line bytes other ++ shown_line bytes one
    else shown_line bytes one ++ shown_line bytes other

-- when the operation at a place ended, and when the first source of its record began
abbrev pub later_text : ℕ → ℕ → ℕ → ℕ → List ℕ
later_text place source end begin =
    number_text (codes "line ") (line_at place) ++ number_text (codes " ended at ") end
    ++ number_text (codes ", line ") (line_at source) ++ number_text (codes ", the first that can, began at ") begin
    ++ codes ".\n"

-- that the operation at a place found a record before the first source of it began
abbrev pub early_lines : List ℕ → ℕ → ℕ → ℕ → ℕ → List ℕ
early_lines bytes place source end begin =
    reason_text (Early place source) ++ two_lines bytes place source
    ++ of_line place (codes " found a record that no other line can have written by then: ")
    ++ later_text place source end begin
