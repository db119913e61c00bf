-- A fold over a schedule, by induction over the steps done so far.
use Rattle.std.proofs.Common.{◌≡◌, List, [], ◌∷◌, ◌++◌, refl, sym, subst, ◌∙◌, append_assoc, append-nil}
use Rattle.std.specs.List.{fold}

-- what each step keeps, of the steps done so far and the state after them, holds after all steps
pub fold_keeps : {A B : Type 0} (P : List A → B → Type 0) (f : B → A → B) (whole : List A) →
    ((done rest : List A) (b : B) (a : A) → whole ≡ done ++ a ∷ rest → P done b → P (done ++ a ∷ []) (f b a)) →
    (done : List A) (b : B) (xs : List A) → whole ≡ done ++ xs → P done b → P whole (fold f b xs)
fold_keeps {A} {B} P f whole step done b [] e h = subst (λ d. P d b) (sym (e ∙ append-nil done)) h
fold_keeps {A} {B} P f whole step done b (x ∷ xs) e h =
    fold_keeps P f whole step (done ++ x ∷ []) (f b x) xs (e ∙ sym (append_assoc done (x ∷ []) xs)) (step done xs b x e h)

-- the same from the first step on
pub fold_keeps_all : {A B : Type 0} (P : List A → B → Type 0) (f : B → A → B) (start : B) (whole : List A) → P [] start →
    ((done rest : List A) (b : B) (a : A) → whole ≡ done ++ a ∷ rest → P done b → P (done ++ a ∷ []) (f b a)) → P whole (fold f start whole)
fold_keeps_all P f start whole h step = fold_keeps P f whole step [] start whole refl h
