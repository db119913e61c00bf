-- A small log, made of a larger one that has no lawful order: of the kept operations those that are shown of the
-- reason, with the writes of their records. It is printed as a document of kind `log` with the lines on which they
-- stand. There the record that was written on line n is [n,n,n], and the opening [0,0,0] (this project's own).
use Rattle.std.specs.Prelude.{ℕ, ◌++◌, ◌==◌, zero, suc, List, [], ◌∷◌, codes, length, map, if◌then◌else◌, Bool}
use Rattle.std.specs.Prelude.{slice_get, unwrap_or, option_map, Option, None}
use Rattle.std.specs.Prelude.{Some, nat_le}
use Rattle.std.specs.Fmt.{decimal}
use Rattle.std.specs.List.{flat_map, list_all, position}
use Rattle.history_core.specs.declared.history.Op.{Op}
use Rattle.history_core.specs.declared.history.Kind.{Kind}
use Rattle.history_core.specs.declared.history.Kind.TheVariants.{Write, Read, Refused}
use Rattle.history_core.specs.declared.reason.Reason.{Reason}
use Rattle.history_core.specs.Kept.{limit_of}
use Rattle.reason_sentences.specs.KeptAt.{writes}
use Rattle.history_core.specs.declared.thinned.LogAnswer.{LogAnswer}
use Rattle.history_core.specs.declared.thinned.LogAnswer.TheVariants.{Lawful, Unlawful}
use Rattle.history_core.specs.declared.thinned.Thinned.{Thinned}
use Rattle.reason_sentences.specs.Named.{in_kept, is_named, shown_of}
use Rattle.reason_sentences.specs.Numbers.{number_text}
use Rattle.text_lines.specs.Places.{line_at}

abbrev pub one_or_none : {A : Type 0} → Option A → List A
one_or_none None = []
one_or_none (Some o) = o ∷ []

-- the operation at this place, if it is named
abbrev pub one_named : List (Op ℕ) → List ℕ → ℕ → List (Op ℕ)
one_named ops named p = if is_named ops named p then one_or_none (slice_get ops p) else []

-- the named ones of the first n operations
abbrev pub named_of : List (Op ℕ) → List ℕ → ℕ → List (Op ℕ)
named_of ops named zero = []
named_of ops named (suc n) = named_of ops named n ++ one_named ops named n

-- the kept operations that are shown of a reason
abbrev pub shown_in : Thinned → Reason → List ℕ
shown_in thinned reason = shown_of thinned.history.ops (in_kept thinned.places reason)

-- the operations of the small log
abbrev pub small_ops : Thinned → Reason → List (Op ℕ)
small_ops thinned reason = named_of thinned.history.ops (shown_in thinned reason) (length thinned.history.ops)

-- the line of the operation at this place, if it is named
abbrev pub one_line : List (Op ℕ) → List ℕ → List ℕ → ℕ → List ℕ
one_line ops named places p = if is_named ops named p then map line_at (one_or_none (slice_get places p)) else []

abbrev pub lines_of : List (Op ℕ) → List ℕ → List ℕ → ℕ → List ℕ
lines_of ops named places zero = []
lines_of ops named places (suc n) = lines_of ops named places n ++ one_line ops named places n

-- the lines on which they stand in the larger log
abbrev pub small_lines : Thinned → Reason → List ℕ
small_lines thinned reason =
    lines_of thinned.history.ops (shown_in thinned reason) thinned.places (length thinned.history.ops)

-- by what a record is told: the line of its write, 0 if it is the opening, and else that of the operation itself
abbrev pub told_record : List ℕ → List (Op ℕ) → ℕ → ℕ → ℕ
told_record lines ops place item =
    if item == 0 then 0 else unwrap_or (slice_get lines (unwrap_or (position (writes item) ops) place)) 0

abbrev pub told_op : List ℕ → List (Op ℕ) → ℕ → Op ℕ → Op ℕ
told_op lines ops place o = record o { item = option_map (told_record lines ops place) o.item }

-- the first n of the operations that stand on these lines, whose records are told by lines
abbrev pub told_of : List ℕ → List (Op ℕ) → ℕ → List (Op ℕ)
told_of lines ops zero = []
told_of lines ops (suc n) = told_of lines ops n ++ one_or_none (option_map (told_op lines ops n) (slice_get ops n))

abbrev pub told_ops : List ℕ → List (Op ℕ) → List (Op ℕ)
told_ops lines ops = told_of lines ops (length ops)

-- whether a document takes the numbers of these tasks
abbrev pub has_actors : List (Op ℕ) → Bool
has_actors ops = list_all (λ (o : Op ℕ). nat_le o.who 15) ops

-- the number of a task: that of the log if a document takes those of all, and else that of its first operation
abbrev pub task_of : List (Op ℕ) → ℕ → ℕ
task_of ops who = if has_actors ops then who else unwrap_or (position (λ (o : Op ℕ). o.who == who) ops) 0

abbrev pub kind_text : Kind → List ℕ
kind_text Write = codes "write"
kind_text Read = codes "read"
kind_text Refused = codes "refused"

abbrev pub end_text : Option ℕ → List ℕ
end_text None = codes "null"
end_text (Some end) = decimal end

abbrev pub band_text : ℕ → List ℕ
band_text n = number_text (codes "[") n ++ number_text (codes ",") n ++ number_text (codes ",") n ++ codes "]"

abbrev pub record_text : Option ℕ → List ℕ
record_text None = codes "null"
record_text (Some n) = band_text n

-- who did what, and from when on
abbrev pub begin_text : List (Op ℕ) → Op ℕ → List ℕ
begin_text ops o =
    number_text (codes " {\"who\":") (task_of ops o.who) ++ codes ",\"kind\":\"" ++ kind_text o.kind
    ++ number_text (codes "\",\"begin\":") o.starts

-- until when, and with which record
abbrev pub outcome_text : Op ℕ → List ℕ
outcome_text o = codes ",\"end\":" ++ end_text o.ends ++ codes ",\"record\":" ++ record_text o.item ++ codes "}"

abbrev pub op_text : List (Op ℕ) → Op ℕ → List ℕ
op_text ops o = begin_text ops o ++ outcome_text o

-- an operation behind another one
abbrev pub next_text : List (Op ℕ) → Op ℕ → List ℕ
next_text ops o = codes ",\n" ++ op_text ops o

abbrev pub ops_text : List (Op ℕ) → List (Op ℕ) → List ℕ
ops_text ops [] = []
ops_text ops (first ∷ rest) = op_text ops first ++ flat_map (next_text ops) rest

abbrev pub lines_text : List ℕ → List ℕ
lines_text [] = []
lines_text (first ∷ rest) = decimal first ++ flat_map (number_text (codes ",")) rest

abbrev pub small_document : ℕ → List ℕ → List (Op ℕ) → List ℕ
small_document limit lines ops =
    number_text (codes "{\"kind\":\"log\",\"opening\":[0,0,0],\"limit\":") limit
    ++ codes ",\"lines\":[" ++ lines_text lines ++ codes "],\"ops\":[\n"
    ++ ops_text (told_ops lines ops) (told_ops lines ops) ++ codes "]}\n"

-- the small log of an unlawful one; of a lawful one nothing
abbrev pub small_text : Thinned → LogAnswer → List ℕ
small_text thinned (Lawful writes) = []
small_text thinned (Unlawful reason) =
    small_document (limit_of thinned) (small_lines thinned reason) (small_ops thinned reason)
