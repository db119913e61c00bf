-- The steps of a reading: what follows one that gave a value, and what a refusal gives.
use Rattle.std.proofs.Common.{◌≡◌, ◌≢◌, ap, refl, sym, ◌∙◌, Option, None, Some, is_some, option_map, Result, Ok, Err}
use Rattle.std.proofs.Common.{IsErr, IsErrAnd}
use Rattle.read_document.specs.declared.refusal.DocError.{DocError}
use Rattle.read_document.specs.declared.refusal.DocError.TheVariants.{NoMemory}
use Rattle.read_document.specs.Refusals.{◌>>=◌, Gives}

-- a step gave a value, and the rest gives the answer
pub next : {A B : Type 0} {step : Result A DocError} {x : A} (rest : A → Result B DocError) {answer : Result B DocError}
    → step ≡ Ok x → rest x ≡ answer → (step >>= rest) ≡ answer
next rest given answered = ap (λ s. s >>= rest) given ∙ answered

-- a step was refused
pub stop : {A B : Type 0} {step : Result A DocError} {why : DocError} (rest : A → Result B DocError)
    → step ≡ Err why → (step >>= rest) ≡ Err why
stop rest refused = ap (λ s. s >>= rest) refused

-- a refusal was passed on
pub refuses : {X Y : Type 0} (see : X → Y) (result : Result X DocError) (answer : Result Y DocError) (why : DocError)
    → IsErr result × IsErrAnd result (λ e. e ≡ why) → (why ≢ NoMemory → answer ≡ Err why) → Gives see result answer
refuses see (Ok x) answer why passed because = absurd passed.1
refuses see (Err e) answer why passed because =
    λ has. because (λ none. has (passed.1 ∙ none)) ∙ ap Err (sym passed.1)

-- what is seen of a value is there where the value is
pub as_there : {X Y : Type 0} (see : X → Y) (found : Option X) → is_some (option_map see found) ≡ is_some found
as_there see None = refl
as_there see (Some x) = refl
