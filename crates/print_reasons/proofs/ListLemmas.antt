-- One more of a list that is mapped.
use Rattle.std.proofs.Common.{◌≡◌, ◌∙◌, ◌++◌, ◌+◌, ◌<◌, ◌∷◌, [], ℕ, List, ap, get_or, length, map, sym, take}
use Rattle.std.proofs.lemmas.List.{map-append, take_more}

pub one_mapped : {X Y : Type 0} (f : X → Y) (found new : List Y) (xs : List X) (i : ℕ) (d : X) → i < length xs
    → found ≡ map f (take i xs) → new ≡ found ++ (f (get_or xs i d) ∷ []) → new ≡ map f (take (i + 1) xs)
one_mapped {Y = Y} f found new xs i d less before pushed =
    pushed ∙ ap (λ (l : List Y). l ++ (f (get_or xs i d) ∷ [])) before
    ∙ sym (map-append f (take i xs) (get_or xs i d ∷ [])) ∙ sym (ap (map f) (take_more xs i d less))
