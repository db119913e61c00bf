-- The JSON value that some bytes are, and the kind of that document (this project's own, over RFC
-- 8259 as serde_json reads it).
use Rattle.std.specs.Prelude.{ℕ, List, length, codes, Bool, false, nat_le, if◌then◌else◌, Option}
use Rattle.std.specs.Prelude.{None, option_and_then, Result}
use Rattle.std.specs.Option.{option_map_or}
use Rattle.std.specs.Str.{bytes_eq, is_utf8}
use Rattle.serde_json.specs.Data.{Data}
use Rattle.serde_json.specs.Read.{read}
use Rattle.serde_json.specs.Find.{get, as_str}
use Rattle.read_document.specs.declared.refusal.DocError.{DocError}
use Rattle.read_document.specs.declared.refusal.DocError.TheVariants.{Long, NotJson}
use Rattle.read_document.specs.Refusals.{◌>>=◌, must, some_or}

-- what the bytes are, as serde_json reads them
abbrev pub json_of : List ℕ → Option Data
json_of bytes = if is_utf8 bytes then read bytes else None

abbrev pub max_bytes : ℕ
max_bytes = 1048576

-- the same where they are not too many
unfoldable pub value_of : List ℕ → Result Data DocError
value_of bytes = do
  short_enough ← must (nat_le (length bytes) max_bytes) Long
  some_or NotJson (json_of bytes)

abbrev pub kind_in : Data → Option (List ℕ)
kind_in d = option_and_then as_str (get (codes "kind") d)

abbrev pub is_kind : List ℕ → Data → Bool
is_kind name d = option_map_or (bytes_eq name) (kind_in d) false
