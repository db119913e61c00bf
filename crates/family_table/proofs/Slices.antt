-- Lists by places: what a change of one element does to the elements that were gathered by their places, and to the elements of a map.
use Rattle.std.proofs.Common.{◌≡◌, ◌≢◌, ◌⊎◌, ℕ, zero, suc, ◌<◌, ◌≤◌, List, [], ◌∷◌, ◌++◌, map, length, get_or, set, replicate}
use Rattle.std.proofs.Common.{refl, sym, ap, ◌∙◌, subst, ⊎_elim, inl, inr, arith}
use mathlib.Core.Option.{some, some-injective, some-ne-none}
use lib.ListN.{get_elem?, get_or-replicate}
use Rattle.family_table.specs.Layouts.{gather, IsInCell, Distinct}

module _ {A : Type 0} where
  pub get_set_here : (xs : List A) (i : ℕ) (v d : A) → i < length xs → get_or (set xs i v) i d ≡ v
  get_set_here [] i v d l = absurd (omega arith)
  get_set_here (x ∷ xs) zero v d l = refl
  get_set_here (x ∷ xs) (suc i) v d l = get_set_here xs i v d (omega arith)

  pub get_set_else : (xs : List A) (i j : ℕ) (v d : A) → j ≢ i → get_or (set xs i v) j d ≡ get_or xs j d
  get_set_else [] i j v d ne = refl
  get_set_else (x ∷ xs) zero zero v d ne = absurd (ne refl)
  get_set_else (x ∷ xs) zero (suc j) v d ne = refl
  get_set_else (x ∷ xs) (suc i) zero v d ne = refl
  get_set_else (x ∷ xs) (suc i) (suc j) v d ne = get_set_else xs i j v d (λ e. ne (ap suc e))

  pub set_long : (xs : List A) (i : ℕ) (v : A) → length (set xs i v) ≡ length xs
  set_long [] i v = refl
  set_long (x ∷ xs) zero v = refl
  set_long (x ∷ xs) (suc i) v = ap suc (set_long xs i v)

  -- two changes at different places, and two at one place
  pub set_swap : (xs : List A) (i j : ℕ) (v w : A) → i ≢ j → set (set xs i v) j w ≡ set (set xs j w) i v
  set_swap [] i j v w ne = refl
  set_swap (x ∷ xs) zero zero v w ne = absurd (ne refl)
  set_swap (x ∷ xs) zero (suc j) v w ne = refl
  set_swap (x ∷ xs) (suc i) zero v w ne = refl
  set_swap (x ∷ xs) (suc i) (suc j) v w ne = ap (λ zs. x ∷ zs) (set_swap xs i j v w (λ e. ne (ap suc e)))

  pub set_twice : (xs : List A) (i : ℕ) (v w : A) → set (set xs i v) i w ≡ set xs i w
  set_twice [] i v w = refl
  set_twice (x ∷ xs) zero v w = refl
  set_twice (x ∷ xs) (suc i) v w = ap (λ zs. x ∷ zs) (set_twice xs i v w)

  pub within : (xs : List A) (i : ℕ) (x : A) → get_elem? xs i ≡ some x → i < length xs
  within [] i x e = absurd (some-ne-none x (sym e))
  within (y ∷ ys) zero x e = omega arith
  within (y ∷ ys) (suc i) x e = let l = within ys i x e in omega arith

  pub get_there : (xs : List A) (i : ℕ) (x d : A) → get_elem? xs i ≡ some x → get_or xs i d ≡ x
  get_there [] i x d e = absurd (some-ne-none x (sym e))
  get_there (y ∷ ys) zero x d e = some-injective y x e
  get_there (y ∷ ys) (suc i) x d e = get_there ys i x d e

  -- what stands at a place is put there again
  pub set_there : (xs : List A) (i : ℕ) (x : A) → get_elem? xs i ≡ some x → set xs i x ≡ xs
  set_there [] i x e = refl
  set_there (y ∷ ys) zero x e = ap (λ z. z ∷ ys) (sym (some-injective y x e))
  set_there (y ∷ ys) (suc i) x e = ap (λ zs. y ∷ zs) (set_there ys i x e)

  pub set_found : (xs : List A) (i : ℕ) (d : A) → set xs i (get_or xs i d) ≡ xs
  set_found [] i d = refl
  set_found (x ∷ xs) zero d = refl
  set_found (x ∷ xs) (suc i) d = ap (λ zs. x ∷ zs) (set_found xs i d)

  pub same_one : (x y : A) → x ∷ [] ≡ y ∷ [] → x ≡ y
  same_one x y e = ap (λ zs. get_or zs 0 x) e

  -- elements by their places
  pub gather_get : (f : ℕ → ℕ) (n i : ℕ) (d : A) (xs : List A) → i < n → get_or (gather f n d xs) i d ≡ get_or xs (f i) d
  gather_get f zero i d xs l = absurd (omega arith)
  gather_get f (suc n) zero d xs l = refl
  gather_get f (suc n) (suc i) d xs l = gather_get (λ j. f (suc j)) n i d xs (omega arith)

  pub gather_at : (f : ℕ → ℕ) (n i : ℕ) (d : A) (xs : List A) (y : A) → get_elem? (gather f n d xs) i ≡ some y →
      (i < n) × (get_or xs (f i) d ≡ y)
  gather_at f zero i d xs y e = absurd (some-ne-none y (sym e))
  gather_at f (suc n) zero d xs y e = (omega arith, some-injective (get_or xs (f zero) d) y e)
  gather_at f (suc n) (suc i) d xs y e = let t = gather_at (λ j. f (suc j)) n i d xs y e in let l : i < n = t.0 in (omega arith, t.1)

  -- a change at another place
  pub gather_apart : (f : ℕ → ℕ) (n : ℕ) (d : A) (xs : List A) (j : ℕ) (v : A) → ((i : ℕ) → i < n → f i ≢ j) →
      gather f n d (set xs j v) ≡ gather f n d xs
  gather_apart f zero d xs j v ne = refl
  gather_apart f (suc n) d xs j v ne = λ z. get_set_else xs j (f zero) v d (ne zero (omega arith)) z
      ∷ gather_apart (λ i. f (suc i)) n d xs j v (λ i l. ne (suc i) (omega arith)) z

  -- and at one of these
  pub gather_set : (f : ℕ → ℕ) (n : ℕ) (d : A) (xs : List A) (i : ℕ) (v : A) → i < n → f i < length xs →
      ((a b : ℕ) → a < n → b < n → f a ≡ f b → a ≡ b) → gather f n d (set xs (f i) v) ≡ set (gather f n d xs) i v
  gather_set f zero d xs i v l inside one = absurd (omega arith)
  gather_set f (suc n) d xs zero v l inside one = λ z. get_set_here xs (f zero) v d inside z
      ∷ gather_apart (λ j. f (suc j)) n d xs (f zero) v
      (λ a la e. let h : suc a ≡ zero = one (suc a) zero (omega arith) (omega arith) e in absurd (omega arith)) z
  gather_set f (suc n) d xs (suc i) v l inside one = λ z. get_set_else xs (f (suc i)) (f zero) v d
      (λ e. let h : zero ≡ suc i = one zero (suc i) (omega arith) l e in absurd (omega arith)) z
      ∷ gather_set (λ j. f (suc j)) n d xs i v (omega arith) inside
      (λ a b la lb e. let h : suc a ≡ suc b = one (suc a) (suc b) (omega arith) (omega arith) e in omega arith) z

  pub gather_replicate : (f : ℕ → ℕ) (n : ℕ) (d : A) (m : ℕ) (x : A) → ((i : ℕ) → i < n → f i < m) →
      gather f n d (replicate m x) ≡ replicate n x
  gather_replicate f zero d m x l = refl
  gather_replicate f (suc n) d m x l = λ z. get_or-replicate m (f zero) x d (l zero (omega arith)) z
      ∷ gather_replicate (λ i. f (suc i)) n d m x (λ i li. l (suc i) (omega arith)) z

  -- maps
  pub map_set : {B : Type 0} (f : A → B) (xs : List A) (i : ℕ) (v : A) → map f (set xs i v) ≡ set (map f xs) i (f v)
  map_set f [] i v = refl
  map_set f (x ∷ xs) zero v = refl
  map_set f (x ∷ xs) (suc i) v = ap (λ ys. f x ∷ ys) (map_set f xs i v)

  pub map_same : {B : Type 0} (f : A → B) (xs : List A) (i : ℕ) (u v : A) → get_elem? xs i ≡ some u → f v ≡ f u →
      map f (set xs i v) ≡ map f xs
  map_same f [] i u v e same = refl
  map_same f (x ∷ xs) zero u v e same = ap (λ y. y ∷ map f xs) (same ∙ ap f (sym (some-injective x u e)))
  map_same f (x ∷ xs) (suc i) u v e same = ap (λ ys. f x ∷ ys) (map_same f xs i u v e same)

  pub set_front : (xs ys : List A) (i : ℕ) (v : A) → i < length xs → set (xs ++ ys) i v ≡ set xs i v ++ ys
  set_front [] ys i v l = absurd (omega arith)
  set_front (x ∷ xs) ys zero v l = refl
  set_front (x ∷ xs) ys (suc i) v l = ap (λ zs. x ∷ zs) (set_front xs ys i v (omega arith))

  -- one element more or less in the middle
  pub in_more : (xs ys : List A) (z x : A) → IsInCell z (xs ++ x ∷ ys) → (z ≡ x) ⊎ IsInCell z (xs ++ ys)
  in_more [] ys z x h = h
  in_more (y ∷ xs) ys z x (inl e) = inr (inl e)
  in_more (y ∷ xs) ys z x (inr h) = ⊎_elim (λ (e : z ≡ x). inl e) (λ (k : IsInCell z (xs ++ ys)). inr (inr k)) (in_more xs ys z x h)

  pub in_less : (xs ys : List A) (z x : A) → IsInCell z (xs ++ ys) → IsInCell z (xs ++ x ∷ ys)
  in_less [] ys z x h = inr h
  in_less (y ∷ xs) ys z x (inl e) = inl e
  in_less (y ∷ xs) ys z x (inr h) = inr (in_less xs ys z x h)

  pub in_middle : (xs ys : List A) (x : A) → IsInCell x (xs ++ x ∷ ys)
  in_middle [] ys x = inl refl
  in_middle (y ∷ xs) ys x = inr (in_middle xs ys x)

  pub distinct_more : (xs ys : List A) (x : A) → Distinct (xs ++ ys) → (IsInCell x (xs ++ ys) → ⊥) → Distinct (xs ++ x ∷ ys)
  distinct_more [] ys x d no_x = (no_x, d)
  distinct_more (y ∷ xs) ys x d no_x = (
    (λ h. ⊎_elim (λ (e : y ≡ x). absurd (no_x (inl (sym e)))) (λ (k : IsInCell y (xs ++ ys)). d.0 k) (in_more xs ys y x h)),
    distinct_more xs ys x d.1 (λ k. no_x (inr k)),
  )

  pub distinct_less : (xs ys : List A) (x : A) → Distinct (xs ++ x ∷ ys) → Distinct (xs ++ ys) × (IsInCell x (xs ++ ys) → ⊥)
  distinct_less [] ys x d = (d.1, d.0)
  distinct_less (y ∷ xs) ys x d =
      let t = distinct_less xs ys x d.1 in (
        ((λ k. d.0 (in_less xs ys y x k)), t.0),
        (λ k. ⊎_elim (λ (e : x ≡ y). d.0 (subst (λ z. IsInCell z (xs ++ x ∷ ys)) e (in_middle xs ys x)))
            (λ (h : IsInCell x (xs ++ ys)). t.1 h) k),
      )

  pub in_front : (xs ys : List A) (x : A) → IsInCell x xs → IsInCell x (xs ++ ys)
  in_front [] ys x h = absurd h
  in_front (y ∷ xs) ys x (inl e) = inl e
  in_front (y ∷ xs) ys x (inr h) = inr (in_front xs ys x h)

  in_behind : (xs ys : List A) (x : A) → IsInCell x ys → IsInCell x (xs ++ ys)
  in_behind [] ys x h = h
  in_behind (y ∷ xs) ys x h = inr (in_behind xs ys x h)

  pub distinct_front : (xs ys : List A) → Distinct (xs ++ ys) → Distinct xs × ((x : A) → IsInCell x xs → IsInCell x ys → ⊥)
  distinct_front [] ys d = (tt, λ x h k. absurd h)
  distinct_front (y ∷ xs) ys d = let t = distinct_front xs ys d.1 in (
    ((λ h. d.0 (in_front xs ys y h)), t.0),
    (λ x h k. ⊎_elim (λ (e : x ≡ y). d.0 (subst (λ z. IsInCell z (xs ++ ys)) e (in_behind xs ys x k)))
        (λ (j : IsInCell x xs). t.1 x j k) h),
  )

pub same_first : {A : Type 0} (k : ℕ) (x y : A) (xs ys : List (ℕ × A)) → (k, x) ∷ xs ≡ (k, y) ∷ ys → x ≡ y
same_first k x y xs ys e = ap (first x) e where
  first : {A : Type 0} → A → List (ℕ × A) → A
  first d [] = d
  first d (z ∷ zs) = z.1

-- elements that all stand in the first part
pub gather_front : {A : Type 0} (f : ℕ → ℕ) (n : ℕ) (d : A) (xs ys : List A) → ((i : ℕ) → i < n → f i < length xs) →
    gather f n d (xs ++ ys) ≡ gather f n d xs
gather_front f zero d xs ys l = refl
gather_front f (suc n) d xs ys l =
    λ z. front xs ys (f zero) d (l zero (omega arith)) z ∷ gather_front (λ i. f (suc i)) n d xs ys (λ i li. l (suc i) (omega arith)) z where
      front : {A : Type 0} (xs ys : List A) (i : ℕ) (d : A) → i < length xs → get_or (xs ++ ys) i d ≡ get_or xs i d
      front [] ys i d l = absurd (omega arith)
      front (x ∷ xs) ys zero d l = refl
      front (x ∷ xs) ys (suc i) d l = front xs ys i d (omega arith)

-- beyond its end
pub past : {A : Type 0} (xs : List A) (i : ℕ) (d : A) → length xs ≤ i → get_or xs i d ≡ d
past [] i d l = refl
past (x ∷ xs) zero d l = absurd (omega arith)
past (x ∷ xs) (suc i) d l = past xs i d (omega arith)
