-- Fields of the lines of a log, whether its records repeat or not: a record, a key, and the number of operations that
-- the end says (this project's own).
use Rattle.std.specs.Prelude.{ℕ, List, [], ◌∷◌, codes, Option, Result}
use Rattle.serde_json.specs.Data.{Data}
use Rattle.serde_json.specs.Find.{get}
use Rattle.read_document.specs.declared.refusal.DocError.{DocError}
use Rattle.read_document.specs.declared.refusal.DocError.TheVariants.{Shape}
use Rattle.read_document.specs.declared.key.Key.{Key}
use Rattle.read_document.specs.declared.key.Key.TheVariants as key
use Rattle.read_document.specs.Keys.{name_of}
use Rattle.read_document.specs.Records.{record_text}
use Rattle.read_document.specs.Refusals.{◌>>=◌, field, required, some_or}
use Rattle.read_document.specs.Values.{as_whole, optional}

-- the text under a key of what may be a record
abbrev pub text_at : Key → Data → Result (Option (List ℕ)) DocError
text_at at d = some_or (Shape at) (optional record_text (get (name_of at) d))

abbrev pub record_in : Data → Result (Option (List ℕ)) DocError
record_in d = some_or (Shape key.Record) (optional record_text (get (codes "record") d))

-- a key is what may be a record
abbrev pub key_in : Data → Result (Option (List ℕ)) DocError
key_in d = some_or (Shape key.Key) (optional record_text (get (codes "key") d))

unfoldable pub done_in : Data → Result ℕ DocError
done_in d = do
  there ← required (key.Ops ∷ []) d
  field key.Ops as_whole d
