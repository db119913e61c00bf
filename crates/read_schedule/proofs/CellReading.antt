-- A list that is read item by item: what the items passed gave stands in front of what the rest gives.
use Rattle.std.proofs.Common.{◌≡◌, ◌≤◌, ◌<◌, ◌+◌, ◌∙◌, ℕ, List, [], ◌∷◌, ◌++◌, length, drop, get_or, refl, ap, sym, append_assoc}
use Rattle.std.proofs.lemmas.List.{append-nil, drop_all, drop_more}
use Rattle.std.specs.Prelude.{Option, None, Some, option_map}
use Rattle.std.specs.Option.{option_and_then}
use Rattle.read_history.specs.Shapes.{all_of}
use Rattle.read_history.proofs.ListLemmas.{with_front}

pub joined : {B : Type 0} (front : List B) (y : B) (read : Option (List B)) →
    with_front (front ++ y ∷ []) read ≡ with_front front (option_map (λ ys. y ∷ ys) read)
joined front y None = refl
joined front y (Some ys) = ap Some (append_assoc front (y ∷ []) ys)

pub first_read : {A B : Type 0} (f : A → Option B) (x : A) (y : B) (rest : List A) → f x ≡ Some y →
    all_of f (x ∷ rest) ≡ option_map (λ ys. y ∷ ys) (all_of f rest)
first_read f x y rest h = ap (option_and_then (λ z. option_map (λ ys. z ∷ ys) (all_of f rest))) h

pub first_refused : {A B : Type 0} (f : A → Option B) (x : A) (rest : List A) → f x ≡ None → all_of f (x ∷ rest) ≡ None
first_refused f x rest h = ap (option_and_then (λ z. option_map (λ ys. z ∷ ys) (all_of f rest))) h

-- one item more was read
pub one_more : {A B : Type 0} (f : A → Option B) (front now : List B) (xs : List A) (i : ℕ) (default : A) (y : B) → now ≡ front ++ y ∷ [] →
    i < length xs → f (get_or xs i default) ≡ Some y → with_front now (all_of f (drop (i + 1) xs)) ≡ with_front front (all_of f (drop i xs))
one_more f front now xs i default y e lt h =
    ap (λ z. with_front z (all_of f (drop (i + 1) xs))) e
    ∙ joined front y (all_of f (drop (i + 1) xs))
    ∙ ap (with_front front)
    (sym (first_read f (get_or xs i default) y (drop (i + 1) xs) h) ∙ ap (all_of f) (sym (drop_more xs i default lt)))

-- all items were read
pub all_read : {A B : Type 0} (f : A → Option B) (front : List B) (xs : List A) (i : ℕ) → length xs ≤ i →
    with_front front (all_of f (drop i xs)) ≡ Some front
all_read f front xs i h = ap (λ z. with_front front (all_of f z)) (drop_all i xs h) ∙ ap Some (append-nil front)

-- an item was refused
pub one_refused : {A B : Type 0} (f : A → Option B) (front : List B) (xs : List A) (i : ℕ) (default : A) → i < length xs
    → f (get_or xs i default) ≡ None → with_front front (all_of f (drop i xs)) ≡ None
one_refused f front xs i default lt h =
    ap (with_front front) (ap (all_of f) (drop_more xs i default lt) ∙ first_refused f (get_or xs i default) (drop (i + 1) xs) h)
