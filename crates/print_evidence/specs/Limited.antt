-- What is printed of a log that its limit makes unlawful (this project's own).
use Rattle.std.specs.Prelude.{ℕ, ◌++◌, List, codes}
use Rattle.history_core.specs.declared.reason.Reason.TheVariants.{Limit}
use Rattle.text_lines.specs.Places.{line_at}
use Rattle.print_evidence.specs.Lost.{line_in}
use Rattle.reason_sentences.specs.Numbers.{number_text}
use Rattle.print_reasons.specs.Text.{line_text, reason_text}

abbrev pub with_limit_text : ℕ → ℕ → ℕ → List ℕ
with_limit_text place end limit =
    number_text (codes "Up to the end of line ") (line_at place) ++ number_text (codes ", at ") end
    ++ number_text (codes ", no order of the operations is lawful with the limit ") limit
    ++ codes "; without it the log is lawful.\n"

-- the line at which the log is lost with this limit, as it stands there, and when it ends
abbrev pub limited_lines : List ℕ → ℕ → ℕ → ℕ → List ℕ
limited_lines bytes place end limit =
    reason_text (Limit place) ++ line_text place (line_in bytes place) ++ with_limit_text place end limit
