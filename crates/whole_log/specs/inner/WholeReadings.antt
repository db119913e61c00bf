-- How far a log is read whole. Only private functions cite this, which is this project's own.
use Rattle.std.specs.Prelude.{◌≡◌, ℕ, List, [], ◌∷◌, ◌++◌, length, Bool, true, false, slice_get, None, Some, Ok}
use Rattle.std.specs.Prelude.{option_map, string_bytes}
use Rattle.lines_log.specs.Logs.{AreAll, AreLines, judged_line, LineRule, unfinished_in}
use Rattle.lines_log.specs.inner.Readings.{HasRest}
use Rattle.kept_lines.specs.Numbered.{AreNumbered}
use Rattle.kept_lines.specs.Reads.{KnowsReads, WereRead}
use Rattle.kept_lines.specs.Tasks.{KnowsTasks}
use Rattle.whole_log.specs.declared.reader.Reader.{Reader}
use Rattle.whole_log.specs.declared.whole_log.WholeLog.{WholeLog}

-- what the lines are judged by
abbrev pub whole_rule : Reader → LineRule
whole_rule reader = record { limited = reader.limited; key = option_map string_bytes reader.key }

-- these lines were read
pub record AreWholeRead (opening : List ℕ) (lines : List (List ℕ)) (reader : Reader) : Type 0 where
  pub records : List (List ℕ)
  pub are : AreLines (whole_rule reader) lines records reader.ops.items
  pub numbered : AreNumbered records reader.numbers
  pub opened : slice_get records 0 ≡ Some opening
  pub tasks : KnowsTasks reader.ops.items reader.turns
  pub reads : KnowsReads reader.ops.items reader.reads

-- one more line was read: an operation was entered, or it is the end
abbrev pub ReadsWholeLine : List ℕ → List (List ℕ) → List ℕ → Bool → Reader → Reader → Bool → Type 0
ReadsWholeLine opening lines line last old new false = AreWholeRead opening (lines ++ line ∷ []) new
ReadsWholeLine opening lines line last old new true =
    AreWholeRead opening lines new × (judged_line (whole_rule old) (length lines) last line ≡ Ok None)

-- some lines were read
abbrev pub HasWholeRead : Reader → Type 0
HasWholeRead reader = (opening : List ℕ) × (lines : List (List ℕ)) × AreWholeRead opening lines reader

-- lines of this body were read
pub record IsWholeSoFar (opening : List ℕ) (rule : LineRule) (ended : Bool) (body : List (List ℕ)) (rest : List ℕ)
    (reader : Reader) : Type 0 where
  pub lines : List (List ℕ)
  pub read : AreWholeRead opening lines reader
  pub limits : whole_rule reader ≡ rule
  pub left : HasRest rule ended body lines rest

-- the body was read
pub record IsWholeBody (opening : List ℕ) (body : List (List ℕ)) (reader : Reader) (ended : Bool) : Type 0 where
  pub lines : List (List ℕ)
  pub read : AreWholeRead opening lines reader
  pub all : AreAll (whole_rule reader) ended body lines

-- what was read, as it is given
pub record IsWholeGiven (has_end : Bool) (reader : Reader) (log : WholeLog) : Type 0 where
  pub ops : log.ops ≡ reader.ops
  pub unfinished : log.unfinished ≡ unfinished_in reader.ops.items
  pub count : (records : List (List ℕ)) → AreNumbered records reader.numbers → log.records ≡ length records
  pub given : KnowsReads reader.ops.items reader.reads → WereRead reader.ops.items log.read
  pub ended : log.ended ≡ has_end
