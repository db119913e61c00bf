-- Why lines stand for no log whose records repeat: the first line at fault, and why. The lines before it are all right
-- (this project's own).
use Rattle.std.specs.Prelude.{◌≡◌, ◌⊎◌, ℕ, List, [], ◌∷◌, ◌++◌, length, Bool, slice_get, Some, Ok, Err}
use Rattle.object_core.specs.declared.operation.Operation.{Operation}
use Rattle.object_registers.specs.declared.exchanging.Exchange.{Exchange}
use Rattle.read_document.specs.declared.refusal.DocError.{DocError}
use Rattle.read_document.specs.declared.refusal.DocError.TheVariants.{NotJson}
use Rattle.text_lines.specs.Splits.{lines_of}
use Rattle.program_runs.specs.declared.fault.Fault.{Fault}
use Rattle.program_runs.specs.declared.fault.Fault.TheVariants.{NoMemory}
use Rattle.read_line.specs.Lines.{Head, head_of}
use Rattle.kept_lines.specs.Numberings.{AreDistinct}
use Rattle.text_lines.specs.Places.{line_at}
use Rattle.lines_log.specs.Faults.{is_last, refused_at}
use Rattle.lines_log.specs.Logs.{LineRule, text_of}
use Rattle.exchanges_log.specs.ExchangeLogs.{AreExchangeLines, judged_line, rule_in}

-- the fault of a line behind these, which is refused, unless memory ran out
abbrev pub IsExchangeFault : LineRule → List (List ℕ) → List ℕ → Bool → Fault → Type 0
IsExchangeFault rule lines line last f =
    (f ≡ NoMemory)
    ⊎ ((why : DocError) × (judged_line rule (length lines) last line ≡ Err why)
    × (f ≡ refused_at (line_at (length lines)) why))

-- the first line at fault among these behind the header
pub record IsExchangesBodyFault (opening : List ℕ) (rule : LineRule) (body : List (List ℕ)) (f : Fault) :
    Type 0 where
  pub lines : List (List ℕ)
  pub line : List ℕ
  pub behind : List (List ℕ)
  pub split : body ≡ lines ++ line ∷ behind
  pub records : List (List ℕ)
  pub log : List (Operation Exchange)
  pub are : AreExchangeLines rule lines records log
  pub opened : slice_get records 0 ≡ Some opening
  pub distinct : AreDistinct records
  pub wrong : IsExchangeFault rule lines line (is_last behind) f

-- the header is at fault
pub record IsExchangesHeaderFault (bytes : List ℕ) (f : Fault) : Type 0 where
  pub header : List ℕ
  pub body : List (List ℕ)
  pub why : DocError
  pub split : lines_of (text_of bytes) ≡ header ∷ body
  pub refused : head_of header ≡ Err why
  pub told : f ≡ refused_at 1 why

-- a line behind a header is at fault
pub record IsExchangesLaterFault (bytes : List ℕ) (f : Fault) : Type 0 where
  pub header : List ℕ
  pub body : List (List ℕ)
  pub head : Head
  pub split : lines_of (text_of bytes) ≡ header ∷ body
  pub said : head_of header ≡ Ok head
  pub wrong : IsExchangesBodyFault head.opening (rule_in head body) body f

-- the fault of a text, unless memory ran out
abbrev pub IsExchangesFault : List ℕ → Fault → Type 0
IsExchangesFault bytes f =
    (f ≡ NoMemory)
    ⊎ (((text_of bytes ≡ []) × (f ≡ refused_at 1 NotJson))
    ⊎ (IsExchangesHeaderFault bytes f ⊎ IsExchangesLaterFault bytes f))
