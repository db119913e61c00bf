-- What reading the input and telling a line do (this project's own).
use Rattle.std.specs.Prelude.{◌≡◌, ◌≤◌, ◌+◌, ◌++◌, ◌⊎◌, ℕ, Bool, true, false, List, length}
use Rattle.std.specs.Prelude.{Option, Result, Ok, Err, Vec, ⊤}
use Rattle.std.specs.declared.alloc.Global.{Global}
use Rattle.std.specs.Io.{StartsWith}
use Rattle.std.specs.Io.KnownBytes.{Appends, Consumes, IsAtEnd}
use Rattle.program_streams.specs.declared.transfer.InputFault.{InputFault}
use Rattle.program_streams.specs.declared.transfer.InputFault.TheVariants.{Failed, NoMemory}

-- the longest document, and one byte more
abbrev pub most_taken : ℕ
most_taken = 1048577

-- the input was read to its end, or as far as a run reads
abbrev pub IsWhole : List ℕ → Option (List ℕ) → Type 0
IsWhole taken left = (length taken ≡ most_taken) ⊎ IsAtEnd left

-- These bytes were taken, and no more than a run takes.
abbrev pub TakesBytes : Option (List ℕ) → Option (List ℕ) → List ℕ → Type 0
TakesBytes old new taken = Consumes old new taken × (length taken ≤ most_taken)

abbrev pub TakesInput : Option (List ℕ) → Option (List ℕ) → Result (Vec ℕ Global) InputFault → Type 0
TakesInput old new (Ok v) = TakesBytes old new v.items × IsWhole v.items new
TakesInput old new (Err e) = (taken : List ℕ) × TakesBytes old new taken

abbrev pub CountsFailure : {T : Type 0} → ℕ → ℕ → Result T InputFault → Type 0
CountsFailure old new (Ok x) = new ≡ old
CountsFailure old new (Err Failed) = new ≡ old + 1
CountsFailure old new (Err NoMemory) = new ≡ old

-- A piece was taken, behind which the input may go on or is at its end; or some of a piece was taken.
abbrev pub TakesPiece : Option (List ℕ) → Option (List ℕ) → List ℕ → Result Bool InputFault → Type 0
TakesPiece old new piece (Ok more) =
    TakesBytes old new piece × (more ≡ true → length piece ≡ most_taken) × (more ≡ false → IsAtEnd new)
TakesPiece old new piece (Err e) = (taken : List ℕ) × TakesBytes old new taken

-- Bytes were taken and added, up to the end or until there were so many; or they were taken, and what had come before
-- stays within the bound with them.
abbrev pub TakesUpTo : ℕ → Option (List ℕ) → Option (List ℕ) → List ℕ → List ℕ → Result ⊤ InputFault → Type 0
TakesUpTo most old new before after (Ok u) =
    (taken : List ℕ) × Consumes old new taken × (after ≡ before ++ taken) × ((most ≤ length after) ⊎ IsAtEnd new)
    × (length before ≤ most → length after ≤ most)
TakesUpTo most old new before after (Err e) =
    (taken : List ℕ) × Consumes old new taken × (length before ≤ most → length before + length taken ≤ most)

-- A piece was taken and added, which is empty at the end alone; or it was taken, and what had come before
-- stays within the bound with it.
abbrev pub TakesMore : ℕ → Option (List ℕ) → Option (List ℕ) → List ℕ → List ℕ → Result ℕ InputFault → Type 0
TakesMore most old new before after (Ok n) =
    (taken : List ℕ) × Consumes old new taken × (after ≡ before ++ taken) × (length after ≤ most)
    × (length taken ≡ n) × (n ≡ 0 → IsAtEnd new)
TakesMore most old new before after (Err e) =
    (taken : List ℕ) × Consumes old new taken × (length before + length taken ≤ most)

-- the line went out, or the stream failed after a front of it
abbrev pub TellsLine : Option (List ℕ) → Option (List ℕ) → ℕ → ℕ → List ℕ → Type 0
TellsLine old new failed_old failed_new line =
    (Appends old new line × (failed_new ≡ failed_old))
    ⊎ (((sent : List ℕ) × StartsWith line sent × Appends old new sent) × (failed_new ≡ failed_old + 1))
