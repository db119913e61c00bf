-- What holds of all elements of a list holds of those at its front, and of one that stands in it.
use Rattle.std.proofs.Common.{arith, subst, refl, suc, ◌≡◌, ◌++◌, ◌∷◌, [], List, All, length-append}
use Rattle.std.specs.Prelude.{slice_index_or}
use Rattle.std.proofs.lemmas.List.{get_or_append_left}

pub all_front : {A : Type 0} (P : A → Type 0) (xs ys : List A) → All P (xs ++ ys) → All P xs
all_front P xs ys h = λ k d l. subst P (get_or_append_left xs ys d k l) (h k d (omega (arith, l, length-append xs ys)))

pub all_at : {A : Type 0} (P : A → Type 0) (all xs : List A) (x : A) (ys : List A) → all ≡ (xs ++ x ∷ []) ++ ys → All P all → P x
all_at P all [] x ys e h = subst (λ z. P (slice_index_or z 0 x)) e (h 0 x (rw e (omega arith)))
all_at P all (y ∷ xs) x ys e h = all_at P ((xs ++ x ∷ []) ++ ys) xs x ys refl (λ k d l. (subst (All P) e h) (suc k) d (omega arith))
