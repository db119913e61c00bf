-- Elements of a list after a write, and of a list that has one element more: each is the new one, or one of before. Tests of numbers.
use Rattle.std.proofs.Common.{◌≡◌, ◌≢◌, ℕ, zero, suc, ◌+◌, ◌<◌, List, [], ◌∷◌, ◌++◌, length, map, take, drop, replicate, set, refl, sym}
use Rattle.std.proofs.Common.{◌∙◌, ap, add-one, arith, ◌⊎◌, inl, inr, ⊎_elim, true, false}
use Rattle.std.specs.Prelude.{slice_get, Some, nat_eq}
use Rattle.std.proofs.lemmas.Option.{slice_get_within, slice_get-get_or, get_or_from_slice_get, none-some, same_Some}
use Rattle.std.specs.List.{fold}
use Rattle.std.proofs.lemmas.List.{get_or-set_same, get_or-set_other, length-set, length-replicate, get_or-replicate}
use Rattle.std.proofs.lemmas.Bool.Decides.{nat_tests}

pub same_or_not : (k i : ℕ) → (k ≡ i) ⊎ (k ≢ i)
same_or_not zero zero = inl refl
same_or_not zero (suc i) = inr (λ e. omega arith)
same_or_not (suc k) zero = inr (λ e. omega arith)
same_or_not (suc k) (suc i) = ⊎_elim (λ e. inl (ap suc e)) (λ ne. inr (λ e. ne (omega arith))) (same_or_not k i)

pub get_set : {X : Type 0} (xs : List X) (i k : ℕ) (y z : X) → slice_get (set xs i y) k ≡ Some z →
    ((k ≡ i) × (z ≡ y)) ⊎ ((k ≢ i) × (slice_get xs k ≡ Some z))
get_set xs i k y z h =
    let lt : k < length xs = omega (arith, slice_get_within (set xs i y) k z h, length-set xs i y) in
    ⊎_elim
    (λ e. let h' : slice_get (set xs i y) i ≡ Some z = rw e at h in
    let l : i < length xs = omega arith in
    inl (e, sym (get_or_from_slice_get (set xs i y) i z y h') ∙ get_or-set_same xs i y y l))
    (λ ne. inr (
      ne,
      slice_get-get_or xs k z lt ∙ ap Some (sym (get_or-set_other xs i k y z ne) ∙ get_or_from_slice_get (set xs i y) k z z h),
    ))
    (same_or_not k i)

pub get_set_same : {X : Type 0} (xs : List X) (i : ℕ) (y : X) → i < length xs → slice_get (set xs i y) i ≡ Some y
get_set_same xs i y l =
    let l' : i < length (set xs i y) = omega (arith, length-set xs i y) in
    slice_get-get_or (set xs i y) i y l' ∙ ap Some (get_or-set_same xs i y y l)

pub get_set_other : {X : Type 0} (xs : List X) (i k : ℕ) (y z : X) → k ≢ i → slice_get xs k ≡ Some z → slice_get (set xs i y) k ≡ Some z
get_set_other xs i k y z ne h =
    let lt : k < length xs = slice_get_within xs k z h in
    let lt' : k < length (set xs i y) = omega (arith, length-set xs i y) in
    slice_get-get_or (set xs i y) k z lt' ∙ ap Some (get_or-set_other xs i k y z ne ∙ get_or_from_slice_get xs k z z h)

-- a list around its element number i
split_suc : {X : Type 0} (xs : List X) (i : ℕ) (x : X) → slice_get xs i ≡ Some x → xs ≡ take i xs ++ x ∷ drop (suc i) xs
split_suc [] i x h = absurd (none-some x h)
split_suc (y ∷ ys) zero x h = ap (λ z. z ∷ ys) (same_Some y x h)
split_suc (y ∷ ys) (suc i) x h = ap (λ zs. y ∷ zs) (split_suc ys i x h)

pub split_at : {X : Type 0} (xs : List X) (i : ℕ) (x : X) → slice_get xs i ≡ Some x → xs ≡ take i xs ++ x ∷ drop (i + 1) xs
split_at xs i x h = split_suc xs i x h ∙ ap (λ k. take i xs ++ x ∷ drop k xs) (sym (add-one i))

take_suc : {X : Type 0} (xs : List X) (i : ℕ) (x : X) → slice_get xs i ≡ Some x → take (suc i) xs ≡ take i xs ++ x ∷ []
take_suc [] i x h = absurd (none-some x h)
take_suc (y ∷ ys) zero x h = ap (λ z. z ∷ []) (same_Some y x h)
take_suc (y ∷ ys) (suc i) x h = ap (λ zs. y ∷ zs) (take_suc ys i x h)

pub take_next : {X : Type 0} (xs : List X) (i : ℕ) (x : X) → slice_get xs i ≡ Some x → take (i + 1) xs ≡ take i xs ++ x ∷ []
take_next xs i x h = ap (λ k. take k xs) (add-one i) ∙ take_suc xs i x h

drop_suc : {X : Type 0} (xs : List X) (i : ℕ) (x : X) → slice_get xs i ≡ Some x → drop i xs ≡ x ∷ drop (suc i) xs
drop_suc [] i x h = absurd (none-some x h)
drop_suc (y ∷ ys) zero x h = ap (λ z. z ∷ ys) (same_Some y x h)
drop_suc (y ∷ ys) (suc i) x h = drop_suc ys i x h

pub drop_next : {X : Type 0} (xs : List X) (i : ℕ) (x : X) → slice_get xs i ≡ Some x → drop i xs ≡ x ∷ drop (i + 1) xs
drop_next xs i x h = drop_suc xs i x h ∙ ap (λ k. x ∷ drop k xs) (sym (add-one i))

pub fold_more : {A B : Type 0} (f : B → A → B) (b : B) (xs : List A) (x : A) → fold f b (xs ++ x ∷ []) ≡ f (fold f b xs) x
fold_more f b [] x = refl
fold_more f b (y ∷ ys) x = fold_more f (f b y) ys x

pub fold_join : {A B : Type 0} (f : B → A → B) (b : B) (xs ys : List A) → fold f b (xs ++ ys) ≡ fold f (fold f b xs) ys
fold_join f b [] ys = refl
fold_join f b (x ∷ xs) ys = fold_join f (f b x) xs ys

pub get_replicate : {X : Type 0} (n i : ℕ) (x y : X) → slice_get (replicate n x) i ≡ Some y → y ≡ x
get_replicate n i x y h =
    let lt : i < n = omega (arith, slice_get_within (replicate n x) i y h, length-replicate n x) in
    sym (get_or_from_slice_get (replicate n x) i y x h) ∙ get_or-replicate n i x x lt

pub get_middle : {X : Type 0} (xs : List X) (x : X) (ys : List X) → slice_get (xs ++ x ∷ ys) (length xs) ≡ Some x
get_middle [] x ys = refl
get_middle (z ∷ zs) x ys = get_middle zs x ys

-- every other element is as it was
pub get_unset : {X : Type 0} (xs : List X) (i k : ℕ) (y : X) → k ≢ i → slice_get (set xs i y) k ≡ slice_get xs k
get_unset [] i k y ne = refl
get_unset (x ∷ xs) zero zero y ne = absurd (ne refl)
get_unset (x ∷ xs) zero (suc k) y ne = refl
get_unset (x ∷ xs) (suc i) zero y ne = refl
get_unset (x ∷ xs) (suc i) (suc k) y ne = get_unset xs i k y (λ e. ne (ap suc e))

pub map_same : {X : Type 0} (xs : List X) → map (λ x. x) xs ≡ xs
map_same [] = refl
map_same (x ∷ xs) = ap (λ ys. x ∷ ys) (map_same xs)

pub get_exists : {X : Type 0} (xs : List X) (p : ℕ) → p < length xs → (x : X) × (slice_get xs p ≡ Some x)
get_exists [] p h = absurd (omega arith)
get_exists (x ∷ xs) zero h = (x, refl)
get_exists (x ∷ xs) (suc p) h = get_exists xs p (omega arith)

pub drop_append : {X : Type 0} (xs ys : List X) → drop (length xs) (xs ++ ys) ≡ ys
drop_append [] ys = refl
drop_append (x ∷ xs) ys = drop_append xs ys

-- what stands behind the first elements of a joined list
pub rest_is : {X : Type 0} (xs ys zs : List X) (first : ℕ) → zs ≡ xs ++ ys → first ≡ length xs →
    drop first zs ≡ ys
rest_is xs ys zs first e f = ap (λ n. drop n zs) f ∙ (ap (drop (length xs)) e ∙ drop_append xs ys)

pub same : (a b : ℕ) → a ≡ b → nat_eq a b ≡ true
same a b h = grind (arith, nat_tests)

pub not_same : (a b : ℕ) → a ≢ b → nat_eq a b ≡ false
not_same a b h = grind (arith, nat_tests)
