-- How the input of `order` is taken behind its front. Only private functions cite this, which is this project's own.
use Rattle.std.specs.Prelude.{◌≡◌, ◌<◌, ◌≤◌, ◌++◌, ◌⊎◌, ℕ, Bool, true, false, List, length, Option, Result, Ok, Err}
use Rattle.std.specs.Io.KnownBytes.{Consumes, IsAtEnd}
use Rattle.text_lines.specs.Words.{text_in}
use Rattle.text_lines.specs.declared.text.PackedText.{PackedText}
use Rattle.program_streams.specs.Spaces.{ends_in_space, most_kept_space, space_behind}
use Rattle.program_streams.specs.Transfer.{most_taken}
use Rattle.program_streams.specs.declared.transfer.InputFault.{InputFault}
use Rattle.fsr_order_input.specs.Kinds.{are_lines}
use Rattle.fsr_order_input.specs.declared.log.LogInput.{LogInput}
use Rattle.fsr_order_input.specs.declared.log.LogInput.TheVariants.{Lines, Document}

-- behind a text that ends in no more white space than is kept there is no more of it either
abbrev pub KeepsSpace : List ℕ → List ℕ → Type 0
KeepsSpace before after = space_behind before ≤ most_kept_space → space_behind after ≤ most_kept_space

-- A piece was taken and packed, behind which the input may go on or is at its end; or some of a piece was taken.
abbrev pub PacksPiece : Option (List ℕ) → Option (List ℕ) → List ℕ → List ℕ → Result Bool InputFault → Type 0
PacksPiece old new before after (Ok more) =
    (taken : List ℕ) × Consumes old new taken × (after ≡ before ++ taken) × (length taken ≤ most_taken)
    × (more ≡ false → IsAtEnd new)
PacksPiece old new before after (Err why) = (taken : List ℕ) × Consumes old new taken × (length taken ≤ most_taken)

-- What was left was taken and packed, to the end of the input, or until the text ended in more white space than may
-- stand behind a log; or some of it was taken. Of white space that goes on no more was taken than is kept.
abbrev pub PacksRest : Option (List ℕ) → Option (List ℕ) → List ℕ → Result PackedText InputFault → Type 0
PacksRest old new before (Ok text) =
    (taken : List ℕ) × Consumes old new taken × (text_in text ≡ before ++ taken)
    × (IsAtEnd new ⊎ (ends_in_space (text_in text) ≡ true)) × KeepsSpace before (text_in text)
PacksRest old new before (Err why) = (taken : List ℕ) × Consumes old new taken × KeepsSpace before (before ++ taken)

-- the front of a log in lines stays alone, if it isn't longer than a document; or the rest is packed too
abbrev pub TakesLines : List ℕ → Option (List ℕ) → Option (List ℕ) → Result PackedText InputFault → Type 0
TakesLines front old new (Ok text) =
    ((text_in text ≡ front) × (new ≡ old) × (length front < most_taken))
    ⊎ ((most_taken ≤ length front) × PacksRest old new front (Ok text))
TakesLines front old new (Err why) = (new ≡ old) ⊎ ((most_taken ≤ length front) × PacksRest old new front (Err why))

-- behind a front that isn't in lines nothing was taken
abbrev pub TakesBehind : List ℕ → Option (List ℕ) → Option (List ℕ) → Result LogInput InputFault → Type 0
TakesBehind front old new (Ok (Lines text)) = (are_lines front ≡ true) × TakesLines front old new (Ok text)
TakesBehind front old new (Ok (Document bytes)) = (bytes.items ≡ front) × (new ≡ old) × (are_lines front ≡ false)
TakesBehind front old new (Err why) = (new ≡ old) ⊎ ((are_lines front ≡ true) × TakesLines front old new (Err why))
