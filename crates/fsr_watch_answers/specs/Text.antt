-- All that is printed of a log that was watched (this project's own).
use Rattle.std.specs.Prelude.{ℕ, ◌++◌, List, [], codes, Bool, true, false, Result, Ok, Err}
use Rattle.std.specs.Fmt.{decimal}
use Rattle.program_runs.specs.Run.{fault_status}
use Rattle.program_runs.specs.declared.fault.Answer.{Answer}
use Rattle.program_streams.specs.Exits.{status_of}
use Rattle.program_streams.specs.declared.exit.Exit.TheVariants.{Refused as RefusedExit}
use Rattle.watch_lines.specs.declared.told.Counts.{Counts}
use Rattle.watch_lines.specs.declared.told.Told.{Told}
use Rattle.watch_lines.specs.declared.told.Told.TheVariants.{Lawful, Lost}
use Rattle.watch_lines.specs.declared.told.WatchFault.{WatchFault}
use Rattle.watch_lines.specs.declared.told.WatchFault.TheVariants.{Below, Refused}

abbrev pub count_text : ℕ → List ℕ → List ℕ
count_text number words = decimal number ++ words

-- what is told of the end of a log: that it isn't there
abbrev pub end_text : Bool → List ℕ
end_text true = codes "\n"
end_text false = codes "; no last line `done`\n"

-- how many operations there are, how many of them are unfinished, how many ended and may have done nothing, how many
-- floors, and whether the end is there
abbrev pub counts_text : Counts → Bool → List ℕ
counts_text counts ended =
    count_text counts.ops (codes " operations, ") ++ count_text counts.unfinished (codes " unfinished, ")
    ++ count_text counts.uncertain (codes " uncertain, ") ++ count_text counts.floors (codes " floors")
    ++ end_text ended

-- the line at whose end a log is lost, and a sentence
abbrev pub lost_text : ℕ → ℕ → List ℕ
lost_text at line =
    count_text line (codes "\nThe log is lost at ") ++ count_text at (codes ", when line ")
    ++ count_text line (codes " ended: no order of what is known by then is lawful, whatever comes.\n")

abbrev pub told_text : Told → List ℕ
told_text (Lawful counts ended) = codes "lawful\n" ++ counts_text counts ended
told_text (Lost at line) = codes "unlawful lost " ++ lost_text at line

abbrev pub told_status : Told → ℕ
told_status (Lawful counts ended) = 0
told_status (Lost at line) = 1

abbrev pub watch_status : WatchFault → ℕ
watch_status (Refused fault) = fault_status fault
watch_status (Below line high) = status_of RefusedExit

abbrev pub answer_of : Told → Answer
answer_of told = record { text = told_text told; status = told_status told }

-- what goes out with which status: of a fault nothing
abbrev pub printed : Result Told WatchFault → Answer
printed (Ok told) = answer_of told
printed (Err fault) = record { text = []; status = watch_status fault }
