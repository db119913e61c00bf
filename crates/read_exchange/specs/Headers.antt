-- The header of a log whose records repeat (this project's own).
use Rattle.std.specs.Prelude.{ℕ, List, is_none, Result, Ok}
use Rattle.read_document.specs.declared.refusal.DocError.{DocError}
use Rattle.read_document.specs.declared.refusal.DocError.TheVariants.{Law}
use Rattle.read_document.specs.declared.key.Key.TheVariants.{Limit}
use Rattle.read_document.specs.Refusals.{◌>>=◌, must}
use Rattle.read_line.specs.Lines.{head_of}

-- the opening that a header of such a log has, or its first refusal: it is a header without a limit
unfoldable pub exchange_head_of : List ℕ → Result (List ℕ) DocError
exchange_head_of bytes = do
  head ← head_of bytes
  unlimited ← must (is_none head.limit) (Law Limit)
  Ok head.opening
