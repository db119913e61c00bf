-- All that is printed of a log that is asked for its coherence (this project's own).
use Rattle.std.specs.Prelude.{ℕ, ◌++◌, List, [], ◌∷◌, codes, length}
use Rattle.std.specs.List.{flat_map}
use Rattle.history_coherence.specs.declared.coherence.Coherence.{Coherence}
use Rattle.history_coherence.specs.declared.coherence.Coherence.TheVariants.{Coherent, Incoherent}
use Rattle.history_coherence.specs.declared.coherence.Incoherence.{Incoherence}
use Rattle.history_coherence.specs.declared.coherence.Incoherence.TheVariants.{Unwritten, Ahead, Circle}
use Rattle.history_coherence.specs.declared.coherence.Link.{Link}
use Rattle.print_reasons.specs.Counts.{count_text, end_text, little_text}
use Rattle.reason_sentences.specs.Numbers.{number_text}
use Rattle.reason_sentences.specs.Sentences.{unwritten_text}
use Rattle.print_reasons.specs.Text.{place_lines}
use Rattle.print_evidence.specs.Together.{shown_lines}
use Rattle.program_runs.specs.declared.fault.Answer.{Answer}
use Rattle.program_streams.specs.Exits.{status_of as status_at}
use Rattle.program_streams.specs.declared.exit.Exit.TheVariants.{Sound, Unsound}
use Rattle.text_lines.specs.Places.{line_at}
use Rattle.whole_log.specs.declared.whole_log.WholeLog.{WholeLog}

abbrev pub name_of : Incoherence → List ℕ
name_of (Unwritten read) = codes "unwritten"
name_of (Ahead read write) = codes "ahead"
name_of (Circle links) = codes "circle"

abbrev pub places_of_link : Link → List ℕ
places_of_link link = link.earlier ∷ link.later ∷ []

-- the places that a reason names: two for each link of a circle
abbrev pub places_in : Incoherence → List ℕ
places_in (Unwritten read) = read ∷ []
places_in (Ahead read write) = read ∷ write ∷ []
places_in (Circle links) = flat_map places_of_link links

-- the lines of these places
abbrev pub named_text : List ℕ → List ℕ
named_text places = place_lines places ++ codes "\n"

abbrev pub ahead_text : ℕ → ℕ → List ℕ
ahead_text read write =
    number_text (codes "Line ") (line_at read)
    ++ number_text (codes " gave a record that the same task writes only later, on line ") (line_at write)
    ++ codes ".\n"

abbrev pub circle_text : List ℕ
circle_text =
    codes "Each two lines are of one task, so the record of the first has to stand before that of the second.\n"
    ++ codes "That goes in a circle; the opening stands before all others.\n"

abbrev pub sentence_text : Incoherence → List ℕ
sentence_text (Unwritten read) = unwritten_text read
sentence_text (Ahead read write) = ahead_text read write
sentence_text (Circle links) = circle_text

-- a reason by its lines, these lines as they stand in the log, and a sentence
abbrev pub incoherent_text : List ℕ → Incoherence → List ℕ
incoherent_text bytes reason =
    codes "incoherent " ++ name_of reason ++ named_text (places_in reason) ++ shown_lines bytes (places_in reason)
    ++ sentence_text reason

-- how little a coherent log shows, if so
abbrev pub found_text : List ℕ → WholeLog → Coherence → List ℕ
found_text bytes log (Coherent order) = codes "coherent\n" ++ little_text (length log.ops.items) log.records log.read
found_text bytes log (Incoherent reason) = incoherent_text bytes reason

-- how many operations there are and how many of them are unfinished, how many records and how many of them were read,
-- and whether the end is there
abbrev pub counts_text : WholeLog → List ℕ
counts_text log =
    count_text (length log.ops.items) (codes " operations, ") ++ count_text log.unfinished (codes " unfinished, ")
    ++ count_text log.records (codes " records, ") ++ count_text log.read (codes " of them read") ++ end_text log.ended

abbrev pub coherence_text : List ℕ → WholeLog → Coherence → List ℕ
coherence_text bytes log found = found_text bytes log found ++ counts_text log

abbrev pub status_of : Coherence → ℕ
status_of (Coherent order) = status_at Sound
status_of (Incoherent reason) = status_at Unsound

abbrev pub printed : List ℕ → WholeLog → Coherence → Answer
printed bytes log found = record { text = coherence_text bytes log found; status = status_of found }
