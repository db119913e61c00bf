-- All that is printed of a log whose records repeat (this project's own).
use Rattle.std.specs.Prelude.{ℕ, ◌++◌, List, codes, length, option_map, slice_get, unwrap_or}
use Rattle.std.specs.Option.{option_and_then}
use Rattle.exchanges_log.specs.declared.exchanges_log.ExchangesLog.{ExchangesLog}
use Rattle.object_core.specs.declared.operation.Operation.{Operation}
use Rattle.object_sources.specs.declared.source.Unsourced.{Unsourced}
use Rattle.object_sources.specs.declared.source.Unsourced.TheVariants.{Unwritten, Early}
use Rattle.print_reasons.specs.Counts.{count_text, end_text}
use Rattle.print_evidence.specs.Limited.{limited_lines}
use Rattle.print_evidence.specs.Lost.{lost_text}
use Rattle.print_evidence.specs.Together.{together_text}
use Rattle.print_evidence.specs.Unsourced.{early_lines, unwritten_lines}
use Rattle.fsr_repeats_answers.specs.declared.evidence.Evidence.{Evidence}
use Rattle.fsr_repeats_answers.specs.declared.evidence.Evidence.TheVariants.{NoSource, Together, Nothing}

abbrev pub ops_text : ExchangesLog → List ℕ
ops_text log = count_text (length log.ops.items) (codes " operations, ")

-- how many operations there are, how many of them are unfinished, and how many ended and may have done nothing; how
-- many records, and whether the end is there
abbrev pub counts_text : ExchangesLog → List ℕ
counts_text log =
    ops_text log ++ count_text log.unfinished (codes " unfinished, ")
    ++ count_text log.uncertain (codes " uncertain, ")
    ++ count_text log.records (codes " records") ++ end_text log.ended

abbrev pub lawful_text : ExchangesLog → List ℕ
lawful_text log = codes "lawful\n" ++ counts_text log

-- when the operation at this place ended
abbrev pub end_of : {W : Type 0} → List (Operation W) → ℕ → ℕ
end_of {W} ops place = unwrap_or (option_and_then (λ (o : Operation W). o.ends) (slice_get ops place)) 0

-- and when it began
abbrev pub begin_of : {W : Type 0} → List (Operation W) → ℕ → ℕ
begin_of {W} ops place = unwrap_or (option_map (λ (o : Operation W). o.starts) (slice_get ops place)) 0

-- why the operation at a place can't have found its record
abbrev pub unsourced_text : List ℕ → ExchangesLog → ℕ → Unsourced → List ℕ
unsourced_text bytes log place Unwritten = unwritten_lines bytes place
unsourced_text bytes log place (Early source) =
    early_lines bytes place source (end_of log.ops.items place) (begin_of log.ops.items source)

-- what shows that a log is lost, or else the line at whose end it is
abbrev pub shown_text : List ℕ → ExchangesLog → ℕ → Evidence → List ℕ
shown_text bytes log place (NoSource why) = unsourced_text bytes log place why
shown_text bytes log place (Together window) = together_text bytes window.first window.last window.places.items
shown_text bytes log place Nothing = lost_text bytes place (end_of log.ops.items place)

abbrev pub unlawful_text : List ℕ → ExchangesLog → ℕ → Evidence → List ℕ
unlawful_text bytes log place evidence = shown_text bytes log place evidence ++ counts_text log

-- of a log that is lawful without this limit
abbrev pub limited_text : List ℕ → ExchangesLog → ℕ → ℕ → List ℕ
limited_text bytes log place limit =
    limited_lines bytes place (end_of log.ops.items place) limit ++ counts_text log
