-- The steps by which a document is read, each of which gives a value or a refusal (this project's own).
use Rattle.std.specs.Prelude.{◌≡◌, ◌≢◌, List, Bool, true, false, is_none, Option, Some, None}
use Rattle.std.specs.Prelude.{option_and_then, Result, Ok, Err, ⊤}
use Rattle.std.specs.List.{find}
use Rattle.serde_json.specs.Data.{Data}
use Rattle.serde_json.specs.Find.{get}
use Rattle.read_document.specs.declared.refusal.DocError.{DocError}
use Rattle.read_document.specs.declared.refusal.DocError.TheVariants.{Missing, NoMemory, Shape}
use Rattle.read_document.specs.declared.key.Key.{Key}
use Rattle.read_document.specs.Keys.{name_of}

-- the next step on the value of this one, or the first refusal
infixl 10 ◌>>=◌
abbrev pub ◌>>=◌ : {A B : Type 0} → Result A DocError → (A → Result B DocError) → Result B DocError
(Ok x) >>= f = f x
(Err e) >>= f = Err e

-- What a call returned, seen by `see`, is the answer, unless memory ran out.
abbrev pub Gives : {X Y : Type 0} → (X → Y) → Result X DocError → Result Y DocError → Type 0
Gives see (Ok x) answer = answer ≡ Ok (see x)
Gives see (Err e) answer = e ≢ NoMemory → answer ≡ Err e

abbrev pub some_or : {A : Type 0} → DocError → Option A → Result A DocError
some_or refusal None = Err refusal
some_or refusal (Some x) = Ok x

abbrev pub must : Bool → DocError → Result ⊤ DocError
must true refusal = Ok tt
must false refusal = Err refusal

abbrev pub none_missing : Option Key → Result ⊤ DocError
none_missing None = Ok tt
none_missing (Some key) = Err (Missing key)

abbrev pub is_missing : Data → Key → Bool
is_missing d key = is_none (get (name_of key) d)

-- each key is there
abbrev pub required : List Key → Data → Result ⊤ DocError
required keys d = none_missing (find (is_missing d) keys)

-- what the key's value stands for
abbrev pub field : {A : Type 0} → Key → (Data → Option A) → Data → Result A DocError
field key f d = some_or (Shape key) (option_and_then f (get (name_of key) d))
