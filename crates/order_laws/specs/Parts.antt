-- What the smaller programs of `order` are asked for (this project's own).
use Rattle.std.specs.Prelude.{◌≡◌, ◌⊎◌, ℕ, List, true, false, Err}
use Rattle.read_document.specs.Document.{value_of}
use Rattle.fsr_order_input.specs.Kinds.{are_lines}
use Rattle.read_document.specs.declared.refusal.DocError.TheVariants.{Long, NotJson}
use Rattle.read_line.specs.Repeats.{has_repeats}

-- neither a log in lines nor any other document: no JSON, or too long
abbrev pub IsNoDocument : List ℕ → Type 0
IsNoDocument bytes = (are_lines bytes ≡ false) × ((value_of bytes ≡ Err NotJson) ⊎ (value_of bytes ≡ Err Long))

-- a log in lines whose records don't repeat, or no document
abbrev pub IsOnceOrNone : List ℕ → Type 0
IsOnceOrNone bytes = ((are_lines bytes ≡ true) × (has_repeats bytes ≡ false)) ⊎ IsNoDocument bytes
