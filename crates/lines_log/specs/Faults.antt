-- Why lines stand for no log: the first line at fault, and why. The lines before it are all right (this project's own).
use Rattle.std.specs.Prelude.{◌≡◌, ℕ, ◌⊎◌, true, false, List, [], ◌∷◌, ◌++◌, length}
use Rattle.std.specs.Prelude.{Bool, slice_get, Some, Ok, Err}
use Rattle.history_core.specs.declared.history.Op.{Op}
use Rattle.history_core.specs.Searches.{WritesOnce}
use Rattle.history_core.specs.declared.reason.SearchError.{SearchError}
use Rattle.history_core.specs.declared.reason.SearchError.TheVariants as search_error
use Rattle.history_thinning.specs.Answers.{IsThinnedFault}
use Rattle.history_thinning.specs.Thinnings.{Equal}
use Rattle.read_document.specs.declared.refusal.DocError.{DocError}
use Rattle.read_document.specs.declared.refusal.DocError.TheVariants.{Law, NoMemory as no_memory, NotJson}
use Rattle.read_document.specs.declared.key.Key.TheVariants.{End}
use Rattle.program_runs.specs.declared.fault.Fault.{Fault}
use Rattle.program_runs.specs.declared.fault.Fault.TheVariants as fault
use Rattle.program_runs.specs.declared.fault.LinesFault.TheVariants.{Refused, Backwards, Overlaps}
use Rattle.program_runs.specs.declared.fault.LinesFault.TheVariants.{WritesOpening, WritesTwice}
use Rattle.kept_lines.specs.Numberings.{AreDistinct}
use Rattle.text_lines.specs.Splits.{lines_of}
use Rattle.text_lines.specs.Places.{line_at}
use Rattle.kept_lines.specs.Tasks.{Overlap, TakeTurns}
use Rattle.read_line.specs.Lines.{Head, head_of}
use Rattle.lines_log.specs.Logs.{AreLines, judged_line, LineRule, rule_in, text_of}

-- how a refusal of this line is told
abbrev pub refused_at : ℕ → DocError → Fault
refused_at line (Law End) = fault.Lines (Backwards line)
refused_at line no_memory = fault.NoMemory
refused_at line why = fault.Lines (Refused line why)

-- the operation of this line overlaps one of its task
pub record IsOverlap (rule : LineRule) (lines : List (List ℕ)) (line : List ℕ) (who first second : ℕ) : Type 0 where
  pub records : List (List ℕ)
  pub log : List (Op ℕ)
  pub next : Op ℕ
  pub place : ℕ
  pub are : AreLines rule (lines ++ line ∷ []) records (log ++ next ∷ [])
  pub task : who ≡ next.who
  pub overlap : Overlap log next place
  pub first_line : first ≡ line_at place
  pub second_line : second ≡ line_at (length log)

-- how it is told that a log can't be searched
abbrev pub told_of : SearchError → Fault
told_of search_error.NoMemory = fault.NoMemory
told_of search_error.Terms = fault.NoMemory
told_of (search_error.Backwards place) = fault.Lines (Backwards (line_at place))
told_of (search_error.WritesOpening place) = fault.Lines (WritesOpening (line_at place))
told_of (search_error.WritesTwice first second) = fault.Lines (WritesTwice (line_at first) (line_at second))

-- with the operation of this line the log can't be searched: it writes a record that another one writes, or the opening
pub record IsRepeat (opening : List ℕ) (rule : LineRule) (lines : List (List ℕ)) (line : List ℕ)
    (f : Fault) : Type 0 where
  pub records : List (List ℕ)
  pub log : List (Op ℕ)
  pub error : SearchError
  pub are : AreLines rule (lines ++ line ∷ []) records log
  pub opened : slice_get records 0 ≡ Some opening
  pub distinct : AreDistinct records
  pub stands : IsThinnedFault log error
  pub told : f ≡ told_of error

-- a line behind these is refused
abbrev pub IsRefusedLine : LineRule → List (List ℕ) → List ℕ → Bool → Fault → Type 0
IsRefusedLine rule lines line last f =
    (why : DocError) × (judged_line rule (length lines) last line ≡ Err why)
    × (f ≡ refused_at (line_at (length lines)) why)

-- the operation of the line overlaps one of its task
abbrev pub IsOverlapped : LineRule → List (List ℕ) → List ℕ → Fault → Type 0
IsOverlapped rule lines line f =
    (who : ℕ) × (first : ℕ) × (second : ℕ) × (f ≡ fault.Lines (Overlaps who first second))
    × IsOverlap rule lines line who first second

-- the fault of a line behind these, unless memory ran out
abbrev pub IsLineFault : List ℕ → LineRule → List (List ℕ) → List ℕ → Bool → Fault → Type 0
IsLineFault opening rule lines line last f =
    (f ≡ fault.NoMemory)
    ⊎ (IsRefusedLine rule lines line last f ⊎ (IsOverlapped rule lines line f ⊎ IsRepeat opening rule lines line f))

-- whether no line follows
abbrev pub is_last : List (List ℕ) → Bool
is_last [] = true
is_last (line ∷ lines) = false

-- whether nothing of a text is left
abbrev pub is_end : List ℕ → Bool
is_end [] = true
is_end (byte ∷ bytes) = false

-- the first line at fault among these behind the header
pub record IsBodyFault (opening : List ℕ) (rule : LineRule) (body : List (List ℕ)) (f : Fault) : Type 0 where
  pub lines : List (List ℕ)
  pub line : List ℕ
  pub behind : List (List ℕ)
  pub split : body ≡ lines ++ line ∷ behind
  pub records : List (List ℕ)
  pub log : List (Op ℕ)
  pub are : AreLines rule lines records log
  pub opened : slice_get records 0 ≡ Some opening
  pub distinct : AreDistinct records
  pub turns : TakeTurns log
  pub once : (n : ℕ) → WritesOnce Equal 0 log n
  pub wrong : IsLineFault opening rule lines line (is_last behind) f

-- the header is at fault
pub record IsHeaderFault (bytes : List ℕ) (f : Fault) : Type 0 where
  pub header : List ℕ
  pub body : List (List ℕ)
  pub why : DocError
  pub split : lines_of (text_of bytes) ≡ header ∷ body
  pub refused : head_of header ≡ Err why
  pub told : f ≡ refused_at 1 why

-- a line behind a header is at fault
pub record IsLaterFault (bytes : List ℕ) (f : Fault) : Type 0 where
  pub header : List ℕ
  pub body : List (List ℕ)
  pub head : Head
  pub split : lines_of (text_of bytes) ≡ header ∷ body
  pub said : head_of header ≡ Ok head
  pub wrong : IsBodyFault head.opening (rule_in head body) body f

-- the fault of a text, unless memory ran out
abbrev pub IsLinesFault : List ℕ → Fault → Type 0
IsLinesFault bytes f =
    (f ≡ fault.NoMemory)
    ⊎ (((text_of bytes ≡ []) × (f ≡ refused_at 1 NotJson)) ⊎ (IsHeaderFault bytes f ⊎ IsLaterFault bytes f))
