-- The next bytes of an input (this project's own).
use Rattle.std.specs.Prelude.{◌≡◌, ℕ, ◌++◌, [], List, Option, Result, Ok, Err}
use Rattle.std.specs.Io.KnownBytes.{Consumes, IsAtEnd}
use Rattle.program_streams.specs.declared.transfer.InputFault.{InputFault}

-- a piece was taken and added, which is empty at the end alone; or it was taken
abbrev pub AddsPiece : Option (List ℕ) → Option (List ℕ) → List ℕ → List ℕ → Result ℕ InputFault → Type 0
AddsPiece old new before after (Ok n) =
    (taken : List ℕ) × Consumes old new taken × (after ≡ before ++ taken) × (n ≡ 0 → (taken ≡ []) × IsAtEnd new)
AddsPiece old new before after (Err e) = (taken : List ℕ) × Consumes old new taken
