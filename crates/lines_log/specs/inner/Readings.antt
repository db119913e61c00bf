-- How far a log is read. Only readers and private functions cite this, which is this project's own.
use Rattle.std.specs.Prelude.{◌≡◌, ℕ, List, [], ◌∷◌, ◌++◌, ◌⊎◌, length, Bool, true, false}
use Rattle.std.specs.Prelude.{slice_get, None, Some, Ok, option_map}
use Rattle.std.specs.Prelude.{string_bytes}
use Rattle.kept_lines.specs.Numbered.{AreNumbered}
use Rattle.kept_lines.specs.Reads.{WereRead, KnowsReads}
use Rattle.text_lines.specs.Splits.{lines_of}
use Rattle.kept_lines.specs.Tasks.{KnowsTasks}
use Rattle.lines_log.specs.Logs.{AreAll, AreLines, judged_line, LineRule, unfinished_in}
use Rattle.history_core.specs.declared.history.Op.{Op}
use Rattle.history_core.specs.declared.reason.SearchError.{SearchError}
use Rattle.history_thinning.specs.Answers.{IsThinnedFault}
use Rattle.history_thinning.specs.Thinnings.{IsThinnedLog}
use Rattle.history_thinning.specs.inner.Kept.{IsThinning}
use Rattle.program_runs.specs.declared.fault.Fault.{Fault}
use Rattle.program_runs.specs.declared.fault.Fault.TheVariants.{NoMemory}
use Rattle.lines_log.specs.Faults.{told_of}
use Rattle.kept_lines.specs.declared.lines_log.LinesLog.{LinesLog}
use Rattle.lines_log.specs.declared.reader.Reader.{Reader}

-- what the lines are judged by
abbrev pub rule_of : Reader → LineRule
rule_of reader = record { limited = reader.limited; key = option_map string_bytes reader.key }

-- these lines were read
pub record AreRead (opening : List ℕ) (lines : List (List ℕ)) (reader : Reader) : Type 0 where
  pub records : List (List ℕ)
  pub log : List (Op ℕ)
  pub are : AreLines (rule_of reader) lines records log
  pub numbered : AreNumbered records reader.numbers
  pub opened : slice_get records 0 ≡ Some opening
  pub tasks : KnowsTasks log reader.turns
  pub kept : IsThinning log reader.thinner
  pub count : reader.count ≡ length log
  pub unfinished : reader.unfinished ≡ unfinished_in log
  pub reads : KnowsReads log reader.reads

-- why an operation isn't entered, with which the log is this one, unless memory ran out
abbrev pub IsEntryFault : List (Op ℕ) → Fault → Type 0
IsEntryFault log f = (f ≡ NoMemory) ⊎ ((error : SearchError) × IsThinnedFault log error × (f ≡ told_of error))

-- one more line was read: an operation was entered, or it is the end
abbrev pub ReadsLine : List ℕ → List (List ℕ) → List ℕ → Bool → Reader → Reader → Bool → Type 0
ReadsLine opening lines line last old new false = AreRead opening (lines ++ line ∷ []) new
ReadsLine opening lines line last old new true = AreRead opening lines new
    × (judged_line (rule_of old) (length lines) last line ≡ Ok None)

-- some lines were read
abbrev pub HasReadLines : Reader → Type 0
HasReadLines reader = (opening : List ℕ) × (lines : List (List ℕ)) × AreRead opening lines reader

-- this body goes on with the rest; or its end was read, and nothing is left
abbrev pub HasRest : LineRule → Bool → List (List ℕ) → List (List ℕ) → List ℕ → Type 0
HasRest rule false body lines rest = body ≡ lines ++ lines_of rest
HasRest rule true body lines rest = (rest ≡ []) × AreAll rule true body lines

-- lines of this body were read
pub record IsPartlyRead (opening : List ℕ) (rule : LineRule) (ended : Bool) (body : List (List ℕ)) (rest : List ℕ)
    (reader : Reader) : Type 0 where
  pub lines : List (List ℕ)
  pub read : AreRead opening lines reader
  pub limits : rule_of reader ≡ rule
  pub left : HasRest rule ended body lines rest

-- the body was read
pub record IsReadWhole (opening : List ℕ) (body : List (List ℕ)) (reader : Reader) (ended : Bool) : Type 0 where
  pub lines : List (List ℕ)
  pub read : AreRead opening lines reader
  pub all : AreAll (rule_of reader) ended body lines

-- what was read, as it is given
pub record IsFinished (limit : ℕ) (has_end : Bool) (reader : Reader) (log : LinesLog) : Type 0 where
  pub thinned : (ops : List (Op ℕ)) → IsThinning ops reader.thinner → IsThinnedLog limit ops log.thinned
  pub ops : log.ops ≡ reader.count
  pub unfinished : log.unfinished ≡ reader.unfinished
  pub count : (records : List (List ℕ)) → AreNumbered records reader.numbers → log.records ≡ length records
  pub given : (ops : List (Op ℕ)) → KnowsReads ops reader.reads → WereRead ops log.read
  pub ended : log.ended ≡ has_end
