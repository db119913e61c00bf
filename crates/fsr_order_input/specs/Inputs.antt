-- The input of the command `order`, of which a log in lines is packed (this project's own).
use Rattle.std.specs.Prelude.{◌≡◌, ℕ, true, false, List, Option, Result, Ok, Err}
use Rattle.text_lines.specs.Words.{text_in}
use Rattle.program_runs.specs.Run.{IsWholeInput, TakesInBound}
use Rattle.fsr_order_input.specs.Kinds.{are_lines}
use Rattle.fsr_order_input.specs.declared.log.LogInput.{LogInput}
use Rattle.fsr_order_input.specs.declared.log.LogInput.TheVariants.{Lines, Document}

-- the bytes of the input
abbrev pub input_text : LogInput → List ℕ
input_text (Lines text) = text_in text
input_text (Document bytes) = bytes.items

-- a log in lines is packed, and no other document
abbrev pub IsByKind : LogInput → Type 0
IsByKind (Lines text) = are_lines (text_in text) ≡ true
IsByKind (Document bytes) = are_lines bytes.items ≡ false

-- the input was taken whole, by its kind, or as far as it was before the run ended
abbrev pub TakesLog : Option (List ℕ) → Option (List ℕ) → Result LogInput ℕ → Type 0
TakesLog old new (Ok log) =
    TakesInBound are_lines old new (input_text log) × IsWholeInput are_lines (input_text log) new × IsByKind log
TakesLog old new (Err status) = (taken : List ℕ) × TakesInBound are_lines old new taken
