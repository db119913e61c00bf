-- What values of documents stand for: whole numbers and the items of an array (this project's own).
use Rattle.std.specs.Prelude.{ℕ, List, [], ◌∷◌, Option, Some, None, option_map, option_and_then}
use Rattle.serde_json.specs.Data.{Data, null, Items, no_items, item}
use Rattle.serde_json.specs.Find.{as_array, as_number, as_u64}

-- a whole number, as serde_json reads it
abbrev pub as_whole : Data → Option ℕ
as_whole d = option_and_then as_u64 (as_number d)

abbrev pub list_of : Items → List Data
list_of no_items = []
list_of (item d ds) = d ∷ list_of ds

abbrev pub as_items : Data → Option (List Data)
as_items d = option_map list_of (as_array d)

-- a missing value and null are nothing
abbrev pub optional : {A : Type 0} → (Data → Option A) → Option Data → Option (Option A)
optional f None = Some None
optional f (Some null) = Some None
optional f (Some d) = option_map Some (f d)
