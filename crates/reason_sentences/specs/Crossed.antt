-- Of two records each of which has to stand before the other: which operation gave an old one, where that shows (this
-- project's own).
use Rattle.std.specs.Prelude.{ℕ, ◌++◌, List, codes, Bool, nat_eq, if◌then◌else◌, slice_get}
use Rattle.std.specs.Prelude.{Option, None, Some}
use Rattle.std.specs.List.{position}
use Rattle.std.specs.Option.{option_and_then}
use Rattle.history_core.specs.declared.history.Op.{Op}
use Rattle.history_core.specs.declared.thinned.Thinned.{Thinned}
use Rattle.text_lines.specs.Places.{line_at}
use Rattle.reason_sentences.specs.Beside.{beside_text}
use Rattle.reason_sentences.specs.KeptAt.{writes}
use Rattle.reason_sentences.specs.Numbers.{number_text}
use Rattle.reason_sentences.specs.Seen.{is_before}
use Rattle.reason_sentences.specs.Times.{apart_text, begin_at, op_at}

-- ---- the write of a record

-- the place of the kept operation that writes this record
abbrev pub written_at : Thinned → ℕ → Option ℕ
written_at thinned item = option_and_then (slice_get thinned.places) (position (writes item) thinned.history.ops)

-- the place of the write of the record of the operation at a place
abbrev pub write_at : Thinned → ℕ → Option ℕ
write_at thinned place =
    option_and_then (written_at thinned) (option_and_then (λ (o : Op ℕ). o.item) (op_at thinned place))

-- an operation had ended when another one began
abbrev pub had_ended_at : Thinned → ℕ → ℕ → Bool
had_ended_at thinned a b = is_before (option_and_then (λ (o : Op ℕ). o.ends) (op_at thinned a)) (begin_at thinned b)

abbrev pub if_later : Thinned → ℕ → Option ℕ → Option ℕ
if_later thinned a None = None
if_later thinned a (Some write) = if had_ended_at thinned a write then Some write else None

-- the write of the record of b, where a had ended when it began: so the record of a was replaced
abbrev pub replaced_by : Thinned → ℕ → ℕ → Option ℕ
replaced_by thinned a b = if_later thinned a (write_at thinned b)

-- ---- the text

-- an operation that shows that a write had taken effect, if it isn't the write
abbrev pub shown_by : ℕ → ℕ → List ℕ
shown_by write by =
    if nat_eq write by then codes ": " else number_text (codes ", as line ") (line_at by) ++ codes " shows: "

abbrev pub replaced_text : ℕ → ℕ → ℕ → List ℕ
replaced_text first write read =
    number_text (codes "Line ") (line_at read)
    ++ number_text (codes " gave an old record, that of line ") (line_at first)
    ++ number_text (codes ", which line ") (line_at write) ++ codes " had replaced"

-- a had ended when b began, and c when d began
abbrev pub times_text : Thinned → ℕ → ℕ → ℕ → ℕ → List ℕ
times_text thinned a b c d = apart_text thinned a b ++ codes "; " ++ apart_text thinned c d ++ codes ".\n"

-- `read` gave the record of `first`, which `write` had replaced, as `by` shows; and which writes it could see
abbrev pub old_text : Thinned → ℕ → ℕ → ℕ → ℕ → List ℕ
old_text thinned first write by read =
    replaced_text first write read ++ shown_by write by ++ times_text thinned first write by read
    ++ beside_text thinned read

-- the lines of the other record: one between the first two, or two
abbrev pub others_text : ℕ → ℕ → List ℕ
others_text b c =
    if nat_eq b c then number_text (codes "and line ") (line_at b) ++ codes ", of another, stands between them: "
    else number_text (codes "lines ") (line_at b) ++ number_text (codes " and ") (line_at c)
    ++ codes " of another, and each record has to stand before the other: "

-- a and d are of one record, b and c of another
abbrev pub records_text : ℕ → ℕ → ℕ → ℕ → List ℕ
records_text a b c d =
    number_text (codes "Lines ") (line_at a) ++ number_text (codes " and ") (line_at d)
    ++ codes " are of one record, " ++ others_text b c

abbrev pub both_text : Thinned → ℕ → ℕ → ℕ → ℕ → List ℕ
both_text thinned a b c d = records_text a b c d ++ times_text thinned a b c d

-- by the writes that replaced the record of a and d, or that of b and c
abbrev pub crossed_by : Thinned → Option ℕ → Option ℕ → ℕ → ℕ → ℕ → ℕ → List ℕ
crossed_by thinned (Some write) other a b c d = old_text thinned a write c d
crossed_by thinned None (Some write) a b c d = old_text thinned c write a b
crossed_by thinned None None a b c d = both_text thinned a b c d

-- a had ended when b began, and c when d began; a and d are of one record, b and c of another
abbrev pub crossed_text : Thinned → ℕ → ℕ → ℕ → ℕ → List ℕ
crossed_text thinned a b c d = crossed_by thinned (replaced_by thinned a b) (replaced_by thinned c d) a b c d
