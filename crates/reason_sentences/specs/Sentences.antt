-- A reason in one sentence, with the times that show it (this project's own).
use Rattle.std.specs.Prelude.{ℕ, ◌++◌, List, codes}
use Rattle.history_core.specs.declared.reason.Reason.{Reason}
use Rattle.history_core.specs.declared.reason.Reason.TheVariants.{Unwritten, Early, Stale, Crossed, Limit}
use Rattle.history_core.specs.Kept.{limit_of}
use Rattle.history_core.specs.declared.thinned.Thinned.{Thinned}
use Rattle.text_lines.specs.Places.{line_at}
use Rattle.reason_sentences.specs.Beside.{beside_text}
use Rattle.reason_sentences.specs.Crossed.{crossed_text}
use Rattle.reason_sentences.specs.Numbers.{number_text}
use Rattle.reason_sentences.specs.Times.{apart_text}

abbrev pub unwritten_text : ℕ → List ℕ
unwritten_text read = number_text (codes "Line ")
    (line_at read) ++ codes " gave a record that is neither the opening nor written.\n"

-- an operation gave a record in these words; that a had ended when b began shows that it should not have
abbrev pub gave_text : Thinned → ℕ → List ℕ → ℕ → ℕ → List ℕ
gave_text thinned read words a b =
    number_text (codes "Line ") (line_at read) ++ words ++ apart_text thinned a b ++ codes ".\n"

abbrev pub early_text : Thinned → ℕ → ℕ → List ℕ
early_text thinned read write =
    gave_text thinned read (codes " gave a record before the write of it began: ") read write

abbrev pub stale_text : Thinned → ℕ → ℕ → List ℕ
stale_text thinned before read = gave_text thinned read (codes " gave an old record, the opening: ") before read

-- so many writes can stand before the first refused write
abbrev pub limit_text : Thinned → ℕ → ℕ → List ℕ
limit_text thinned most refused =
    number_text (codes "Of the writes at most ") most ++ number_text (codes " can stand before line ") (line_at refused)
    ++ number_text (codes " or a refused write in front of it, and the limit is ") (limit_of thinned) ++ codes ".\n"

abbrev pub sentence_text : Thinned → ℕ → Reason → List ℕ
sentence_text thinned most (Unwritten read) = unwritten_text read ++ beside_text thinned read
sentence_text thinned most (Early read write) = early_text thinned read write
sentence_text thinned most (Stale before read) = stale_text thinned before read ++ beside_text thinned read
sentence_text thinned most (Crossed a b c d) = crossed_text thinned a b c d
sentence_text thinned most (Limit refused) = limit_text thinned most refused
