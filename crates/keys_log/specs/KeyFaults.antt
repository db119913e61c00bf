-- Why lines stand for no logs of several keys: the first line at fault, and why. The lines before it are all right
-- (this project's own).
use Rattle.std.specs.Prelude.{◌≡◌, ℕ, ◌-◌, ◌⊎◌, List, [], ◌∷◌, ◌++◌, length, Bool, slice_get, unwrap_or}
use Rattle.std.specs.Prelude.{Option, Some, Ok, Err}
use Rattle.history_core.specs.declared.history.Op.{Op}
use Rattle.read_document.specs.declared.refusal.DocError.{DocError}
use Rattle.read_document.specs.declared.refusal.DocError.TheVariants.{NotJson}
use Rattle.program_runs.specs.declared.fault.Fault.{Fault}
use Rattle.program_runs.specs.declared.fault.Fault.TheVariants as fault
use Rattle.program_runs.specs.declared.fault.LinesFault.{LinesFault}
use Rattle.program_runs.specs.declared.fault.LinesFault.TheVariants.{Headless, Refused, Backwards, Overlaps}
use Rattle.program_runs.specs.declared.fault.LinesFault.TheVariants.{WritesOpening, WritesTwice}
use Rattle.text_lines.specs.Splits.{lines_of}
use Rattle.text_lines.specs.Places.{line_at}
use Rattle.read_line.specs.Lines.{Head, head_of}
use Rattle.lines_log.specs.Faults.{IsHeaderFault, is_last, IsOverlapped, IsRepeat, refused_at}
use Rattle.lines_log.specs.Logs.{first_key, judged_line, text_of}
use Rattle.keys_log.specs.Keys.{IsKeyRegister, key_on, keys_in, lines_of_key, places_of_key, rule_for}

-- the line in the whole text of a line of a key, whose operations are at these places
abbrev pub whole_line : List ℕ → ℕ → ℕ
whole_line places line = line_at (unwrap_or (slice_get places (line - 2)) 0)

abbrev pub lines_in_whole : List ℕ → LinesFault → LinesFault
lines_in_whole places (Headless why) = Headless why
lines_in_whole places (Refused line why) = Refused (whole_line places line) why
lines_in_whole places (Backwards line) = Backwards (whole_line places line)
lines_in_whole places (Overlaps who first second) =
    Overlaps who (whole_line places first) (whole_line places second)
lines_in_whole places (WritesTwice first second) =
    WritesTwice (whole_line places first) (whole_line places second)
lines_in_whole places (WritesOpening line) = WritesOpening (whole_line places line)

-- a fault of the log of a key by the lines of the whole text
abbrev pub in_whole : List ℕ → Fault → Fault
in_whole places (fault.Lines why) = fault.Lines (lines_in_whole places why)
in_whole places why = why

-- behind these lines a line of this key is at fault in the log of its key: its operation overlaps one of its task, or
-- writes a record that another one writes, or the opening
abbrev pub IsFaultInKey : Head → List (List ℕ) → Option (List ℕ) → List ℕ → Fault → Type 0
IsFaultInKey head lines key line f =
    (own : Fault) × (IsOverlapped (rule_for head key) (lines_of_key key lines) line own
    ⊎ IsRepeat head.opening (rule_for head key) (lines_of_key key lines) line own)
    × (f ≡ in_whole (places_of_key key (lines ++ line ∷ [])) own)

-- a line behind these is refused, by its own key
abbrev pub IsKeyedRefusal : Head → List (List ℕ) → List ℕ → Bool → Fault → Type 0
IsKeyedRefusal head lines line last f =
    (why : DocError) × (judged_line (rule_for head (key_on line)) (length lines) last line ≡ Err why)
    × (f ≡ refused_at (line_at (length lines)) why)

-- the fault of a line behind these, unless memory ran out
abbrev pub IsKeyedFault : Head → List (List ℕ) → List ℕ → Bool → Fault → Type 0
IsKeyedFault head lines line last f =
    (f ≡ fault.NoMemory) ⊎ (IsKeyedRefusal head lines line last f ⊎ IsFaultInKey head lines (key_on line) line f)

-- the first line at fault among these behind the header
pub record IsKeysBodyFault (head : Head) (body : List (List ℕ)) (f : Fault) : Type 0 where
  pub lines : List (List ℕ)
  pub line : List ℕ
  pub behind : List (List ℕ)
  pub split : body ≡ lines ++ line ∷ behind
  pub are : (i : ℕ) (key : Option (List ℕ)) → slice_get (keys_in (first_key body) lines) i ≡ Some key →
      (log : List (Op ℕ)) × IsKeyRegister head.opening (rule_for head key) (lines_of_key key lines) log
  pub wrong : IsKeyedFault head lines line (is_last behind) f

-- a line behind a header is at fault
pub record IsLaterKeysFault (bytes : List ℕ) (f : Fault) : Type 0 where
  pub header : List ℕ
  pub body : List (List ℕ)
  pub head : Head
  pub split : lines_of (text_of bytes) ≡ header ∷ body
  pub said : head_of header ≡ Ok head
  pub wrong : IsKeysBodyFault head body f

-- the fault of a text, unless memory ran out
abbrev pub IsKeysFault : List ℕ → Fault → Type 0
IsKeysFault bytes f =
    (f ≡ fault.NoMemory)
    ⊎ (((text_of bytes ≡ []) × (f ≡ refused_at 1 NotJson)) ⊎ (IsHeaderFault bytes f ⊎ IsLaterKeysFault bytes f))
