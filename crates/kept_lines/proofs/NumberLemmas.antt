-- Lists with one element more, and look-ups of a map with none.
use Rattle.std.proofs.Common.{◌≡◌, ℕ, List, [], ◌∷◌, ◌++◌, length, refl, slice_get, Some, None, zero, suc}
use Rattle.std.specs.Prelude.{String}
use Rattle.std.specs.declared.alloc.Global.{Global}
use Rattle.std.specs.BTreeMap.{BTreeMap, get_by_text}

pub get_before : {X : Type 0} (xs : List X) (y : X) (i : ℕ) (x : X) → slice_get xs i ≡ Some x → slice_get (xs ++ y ∷ []) i ≡ Some x
get_before [] y i x h = cc
get_before (z ∷ xs) y zero x h = h
get_before (z ∷ xs) y (suc i) x h = get_before xs y i x h

pub get_last : {X : Type 0} (xs : List X) (y : X) → slice_get (xs ++ y ∷ []) (length xs) ≡ Some y
get_last [] y = refl
get_last (z ∷ xs) y = get_last xs y

pub none_there : (m : BTreeMap (String Global) ℕ) → m.entries ≡ [] → (text : List ℕ) → get_by_text m text ≡ None
none_there m e text = rw e refl
