-- The shapes of a document's values: what a value stands for, or nothing where it has
-- another shape (this project's own).
use Rattle.std.specs.Prelude.{ℕ, List, [], ◌∷◌, codes, if◌then◌else◌, Option, Some, None, option_map, option_and_then}
use Rattle.std.specs.Str.{bytes_eq}
use Rattle.serde_json.specs.Data.{Data}
use Rattle.serde_json.specs.Find.{get, as_str}
use Rattle.history_core.specs.declared.band.Band.{Band}
use Rattle.history_core.specs.declared.history.Op.{Op}
use Rattle.history_core.specs.declared.wish.Wish.{Wish}
use Rattle.history_core.specs.declared.wish.Wish.TheVariants as wish
use Rattle.history_fields.specs.Fields.{kind_named}
use Rattle.read_document.specs.Values.{as_items, as_whole, optional}

infixl 10 ◌>>=◌
abbrev pub ◌>>=◌ : {A B : Type 0} → Option A → (A → Option B) → Option B
None >>= f = None
(Some x) >>= f = f x

-- each item under f, where each has the shape
abbrev pub all_of : {A B : Type 0} → (A → Option B) → List A → Option (List B)
all_of f [] = Some []
all_of f (x ∷ xs) = option_and_then (λ y. option_map (λ ys. y ∷ ys) (all_of f xs)) (f x)

abbrev pub as_list : {A : Type 0} → (Data → Option A) → Data → Option (List A)
as_list f d = option_and_then (all_of f) (as_items d)

-- lo, now, hi
abbrev pub as_three : List Data → Option Band
as_three (a ∷ b ∷ c ∷ []) = do
  lo ← as_whole a
  mid ← as_whole b
  hi ← as_whole c
  Some (record { lo = lo; now = mid; hi = hi })
as_three other = None

abbrev pub as_band : Data → Option Band
as_band d = option_and_then as_three (as_items d)

abbrev pub as_op : Data → Option (Op Band)
as_op d = do
  who ← option_and_then as_whole (get (codes "who") d)
  kind ← option_and_then kind_named (option_and_then as_str (get (codes "kind") d))
  begin ← option_and_then as_whole (get (codes "begin") d)
  ends ← optional as_whole (get (codes "end") d)
  seen ← optional as_band (get (codes "record") d)
  Some (record { who = who; kind = kind; starts = begin; ends = ends; item = seen })

-- the text `read`, or a record to write
abbrev pub wish_named : List ℕ → Option (Wish Band)
wish_named s = if bytes_eq s (codes "read") then Some wish.Read else None

abbrev pub as_wish_of : Option (List ℕ) → Data → Option (Wish Band)
as_wish_of None d = option_map wish.Write (as_band d)
as_wish_of (Some s) d = wish_named s

abbrev pub as_wish : Data → Option (Wish Band)
as_wish d = as_wish_of (as_str d) d

abbrev pub as_plan : Data → Option (List (Wish Band))
as_plan d = as_list as_wish d
