-- All that is printed of a log in lines (this project's own).
use Rattle.std.specs.Prelude.{ℕ, ◌*◌, ◌++◌, ◌||◌, List, [], codes, Bool, nat_eq, nat_lt}
use Rattle.history_core.specs.declared.thinned.LogAnswer.{LogAnswer}
use Rattle.history_core.specs.declared.thinned.LogAnswer.TheVariants.{Lawful, Unlawful}
use Rattle.kept_lines.specs.declared.lines_log.LinesLog.{LinesLog}
use Rattle.print_reasons.specs.Counts.{count_text, end_text, little_text}
use Rattle.print_reasons.specs.Text.{verdict_text}

-- how many operations there are and how many of them are unfinished, how many records and how many of them were read,
-- and whether the end is there
abbrev pub counts_text : LinesLog → List ℕ
counts_text log =
    count_text log.ops (codes " operations, ") ++ count_text log.unfinished (codes " unfinished, ")
    ++ count_text log.records (codes " records, ") ++ count_text log.read (codes " of them read") ++ end_text log.ended

-- whether this says something of a lawful log
abbrev pub shows_little : LinesLog → Bool
shows_little log = nat_eq log.ops 0 || nat_lt (log.read * 100) log.records

abbrev pub shown_text : LinesLog → LogAnswer → List ℕ
shown_text log (Lawful writes) = little_text log.ops log.records log.read
shown_text log (Unlawful reason) = []

-- the answer, with the writes in order if that is asked for
abbrev pub lines_text : Bool → List ℕ → LinesLog → ℕ → LogAnswer → List ℕ
lines_text order bytes log most found =
    verdict_text order bytes log.thinned most found ++ shown_text log found ++ counts_text log
