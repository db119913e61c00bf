-- The printed lines of a search for an order of a log in lines (this project's own).
use Rattle.std.specs.Prelude.{ℕ, ◌+◌, ◌++◌, List, [], ◌∷◌, drop, codes, Bool, false, true, if◌then◌else◌}
use Rattle.std.specs.Prelude.{length, map, nat_lt}
use Rattle.std.specs.Fmt.{decimal}
use Rattle.std.specs.List.{flat_map}
use Rattle.history_core.specs.declared.history.Op.{Op}
use Rattle.history_core.specs.declared.reason.Reason.{Reason}
use Rattle.history_core.specs.declared.reason.Reason.TheVariants.{Unwritten, Early, Stale, Crossed, Limit}
use Rattle.history_core.specs.declared.thinned.LogAnswer.{LogAnswer}
use Rattle.history_core.specs.declared.thinned.LogAnswer.TheVariants.{Lawful, Unlawful as NoOrder}
use Rattle.history_core.specs.declared.thinned.Thinned.{Thinned}
use Rattle.text_lines.specs.Splits.{lines_of}
use Rattle.text_lines.specs.Places.{line_at}
use Rattle.reason_sentences.specs.Beside.{place_at}
use Rattle.reason_sentences.specs.KeptAt.{kept_at}
use Rattle.reason_sentences.specs.Named.{in_kept, is_named_next, next_of, shown_of}
use Rattle.reason_sentences.specs.Numbers.{number_text}
use Rattle.reason_sentences.specs.Seen.{could_see, most_seen, sees_opening}
use Rattle.reason_sentences.specs.Sentences.{sentence_text}
use Rattle.record_words.specs.Origins.{origins_text}

abbrev pub line_feed : ℕ
line_feed = 10

-- the lines of the operations at these places, each behind a blank
abbrev pub place_lines : List ℕ → List ℕ
place_lines places = flat_map (λ place. number_text (codes " ") (line_at place)) places

-- a rule, and the lines of the operations that show it
abbrev pub rule_text : List ℕ → List ℕ → List ℕ
rule_text words places = words ++ place_lines places ++ line_feed ∷ []

abbrev pub reason_text : Reason → List ℕ
reason_text (Unwritten read) = rule_text (codes "unlawful unwritten") (read ∷ [])
reason_text (Early read write) = rule_text (codes "unlawful early") (read ∷ write ∷ [])
reason_text (Stale before read) = rule_text (codes "unlawful stale") (before ∷ read ∷ [])
reason_text (Crossed a b c d) = rule_text (codes "unlawful crossed") (a ∷ b ∷ c ∷ d ∷ [])
reason_text (Limit refused) = rule_text (codes "unlawful limit") (refused ∷ [])

-- a line of the log behind its number
abbrev pub line_text : ℕ → List ℕ → List ℕ
line_text place line = codes "line " ++ decimal (line_at place) ++ codes ": " ++ line ++ line_feed ∷ []

-- the lines of the named ones of the operations that are kept, which are at these places of the log, from the next of
-- them on; the first of these lines is that of the operation at place p
abbrev pub named_text : List (Op ℕ) → List ℕ → List ℕ → ℕ → ℕ → List (List ℕ) → List ℕ
named_text ops places named next p [] = []
named_text ops places named next p (line ∷ lines) =
    (if is_named_next ops places named next p then line_text p line else [])
    ++ named_text ops places named (next_of places next p) (p + 1) lines

-- the lines behind the header
abbrev pub body_of : List ℕ → List (List ℕ)
body_of bytes = drop 1 (lines_of bytes)

-- whether a reason speaks of the opening
abbrev pub is_of_opening : Reason → Bool
is_of_opening (Unwritten read) = true
is_of_opening (Early read write) = false
is_of_opening (Stale before read) = true
is_of_opening (Crossed a b c d) = false
is_of_opening (Limit refused) = false

abbrev pub head_text : List (List ℕ) → List ℕ
head_text [] = []
head_text (line ∷ lines) = codes "line 1: " ++ line ++ line_feed ∷ []

-- the header, which has the opening, where the reason speaks of that
abbrev pub opening_text : Bool → List ℕ → List ℕ
opening_text shown bytes = if shown then head_text (lines_of bytes) else []

-- the operations that are shown of a reason, with the writes of their records
abbrev pub shown_text : List ℕ → Thinned → Reason → List ℕ
shown_text bytes thinned reason =
    named_text thinned.history.ops thinned.places (shown_of thinned.history.ops (in_kept thinned.places reason)) 0 0
    (body_of bytes)

-- of which of these writes the words are that an operation gave, and of the opening if it could see that; nothing if
-- the writes are too many
abbrev pub torn_by : List ℕ → Thinned → ℕ → List ℕ → List ℕ
torn_by bytes thinned read seen = if nat_lt most_seen (length seen) then []
    else origins_text bytes (sees_opening thinned.history.ops (kept_at thinned.places read)) read
    (map (place_at thinned.places) seen)

-- the same of the writes that it could see
abbrev pub torn_text : List ℕ → Thinned → ℕ → List ℕ
torn_text bytes thinned read = torn_by bytes thinned read (could_see thinned.history.ops (kept_at thinned.places read))

-- where an operation gave a record that nobody wrote
abbrev pub words_text : List ℕ → Thinned → Reason → List ℕ
words_text bytes thinned (Unwritten read) = torn_text bytes thinned read
words_text bytes thinned (Early read write) = []
words_text bytes thinned (Stale before read) = []
words_text bytes thinned (Crossed a b c d) = []
words_text bytes thinned (Limit refused) = []

-- a reason, the lines that show it, a sentence, and of which lines the words of a record are that nobody wrote
abbrev pub unlawful_text : List ℕ → Thinned → ℕ → Reason → List ℕ
unlawful_text bytes thinned most reason =
    reason_text reason ++ opening_text (is_of_opening reason) bytes ++ shown_text bytes thinned reason
    ++ sentence_text thinned most reason ++ words_text bytes thinned reason

abbrev pub writes_text : List ℕ → List ℕ
writes_text writes = rule_text (codes "writes:") writes

-- the verdict, and the writes of a lawful order where they are asked for
abbrev pub lawful_text : Bool → List ℕ → List ℕ
lawful_text order writes = codes "lawful\n" ++ (if order then writes_text writes else [])

abbrev pub verdict_text : Bool → List ℕ → Thinned → ℕ → LogAnswer → List ℕ
verdict_text order bytes thinned most (Lawful writes) = lawful_text order writes
verdict_text order bytes thinned most (NoOrder reason) = unlawful_text bytes thinned most reason
