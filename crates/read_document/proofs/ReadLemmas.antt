-- What serde_json's answer says of the bytes: those that aren't UTF-8 have no value, and of others it gives the value or says that
-- there is none.
use Rattle.std.proofs.Common.{◌≡◌, ℕ, List, refl, Some, None, Bool, true, false}
use Rattle.std.proofs.lemmas.Str.{is_utf8-from_IsUtf8, IsUtf8-from_is_utf8}
use Rattle.std.specs.Prelude.{IsUtf8}
use Rattle.std.specs.Str.{is_utf8}
use Rattle.serde_json.specs.Data.{Data}
use Rattle.serde_json.specs.Read.{read}
use Rattle.read_document.specs.Document.{json_of}

pub json_of_read : (bytes : List ℕ) (d : Data) → IsUtf8 bytes → read bytes ≡ Some d → json_of bytes ≡ Some d
json_of_read bytes d utf8 e = rw (is_utf8-from_IsUtf8 bytes utf8) e

pub json_of_refused : (bytes : List ℕ) → (IsUtf8 bytes → read bytes ≡ None) → json_of bytes ≡ None
json_of_refused bytes h = by_test (is_utf8 bytes) refl
  where
    by_test : (b : Bool) → is_utf8 bytes ≡ b → json_of bytes ≡ None
    by_test true e = rw e (h (IsUtf8-from_is_utf8 bytes e))
    by_test false e = rw e refl
