-- Laws of the lists that a cell's contract names.
use Rattle.std.proofs.Common.{◌≡◌, ◌≢◌, ℕ, zero, suc, List, [], ◌∷◌, ◌++◌, All, ⊎_elim, inl, inr, refl, sym, ap, ◌∙◌, subst, arith, get_or}
use Rattle.std.proofs.Common.{take, set, ◌<◌, ◌≤◌, length, slice_get, Some}
use Rattle.std.proofs.lemmas.List.Elements.{All-append}
use mathlib.Core.Option.{some, some-injective, some-ne-none}
use lib.ListN.{get_elem?}
use Rattle.atomic_table.specs.Table.{rest}
use Rattle.atomic_table.proofs.Lists.{at_longer, at_set}
use Rattle.cell_contract.specs.Running.{last_or, settled_from, Settled, Stands, Rising, held_slots}

module _ {T : Type 0} where
  pub last_here : (x : T) (ys : List T) → slice_get (x ∷ ys) (length ys) ≡ Some (last_or x ys)
  last_here x [] = refl
  last_here x (y ∷ ys) = last_here y ys

  pub last_snoc : (x : T) (ys : List T) (z : T) → last_or x (ys ++ z ∷ []) ≡ z
  last_snoc x [] z = refl
  last_snoc x (y ∷ ys) z = last_snoc y ys z

  from_each : (x : T) (R S : List T → Type 0) → ((ys : List T) → R ys → S ys) → (ys : List T) → settled_from x R ys → settled_from x S ys
  from_each x R S f [] h = tt
  from_each x R S f (a ∷ ys) h =
      ⊎_elim (λ (t : (x ≡ a) × settled_from x R ys). inl (t.0, from_each x R S f ys t.1)) (λ (t : R (a ∷ ys)). inr (f (a ∷ ys) t)) h

  pub settled_none : (xs : List T) → Settled xs []
  settled_none [] = tt
  settled_none (x ∷ xs) = tt

  -- a longer list of records
  pub settled_more : (xs more ys : List T) → Settled xs ys → Settled (xs ++ more) ys
  settled_more [] more [] h = settled_none more
  settled_more [] more (a ∷ ys) h = absurd h
  settled_more (x ∷ xs) more ys h = from_each x (Settled xs) (Settled (xs ++ more)) (λ zs. settled_more xs more zs) ys h

  from_last : (x z : T) (R : List T → Type 0) → ((ys : List T) → R ys → R (ys ++ z ∷ [])) → R (z ∷ []) → (ys : List T) →
      settled_from x R ys → settled_from x R (ys ++ z ∷ [])
  from_last x z R f none [] h = inr none
  from_last x z R f none (a ∷ ys) h =
      ⊎_elim (λ (t : (x ≡ a) × settled_from x R ys). inl (t.0, from_last x z R f none ys t.1)) (λ (t : R (a ∷ ys)). inr (f (a ∷ ys) t)) h

  from_end : (x : T) (ys : List T) → settled_from x (Settled []) ys → settled_from x (Settled []) (ys ++ x ∷ [])
  from_end x [] h = inl (refl, tt)
  from_end x (a ∷ ys) h = ⊎_elim (λ (t : (x ≡ a) × settled_from x (Settled []) ys). inl (t.0, from_end x ys t.1)) (λ (t : ⊥). absurd t) h

  -- the last record may always be answered
  pub settled_last : (x : T) (xs ys : List T) → Settled (x ∷ xs) ys → Settled (x ∷ xs) (ys ++ last_or x xs ∷ [])
  settled_last x [] ys h = from_end x ys h
  settled_last x (y ∷ xs) ys h = from_last x (last_or y xs) (Settled (y ∷ xs)) (settled_last y xs) (settled_last y xs [] tt) ys h

  from_stands : (x : T) (xs : List T) (R : List T → Type 0) → ((a : T) (ys : List T) → R (a ∷ ys) → Stands (last_or a ys) xs) →
      (a : T) (ys : List T) → settled_from x R (a ∷ ys) → Stands (last_or a ys) (x ∷ xs)
  from_stands x xs R f a [] h = ⊎_elim (λ (t : (x ≡ a) × Unit {0}). (0, ap some t.0)) (λ (t : R (a ∷ [])).
      let u = f a [] t in
      (suc u.0, u.1)) h
  from_stands x xs R f a (b ∷ ys) h =
      ⊎_elim (λ (t : (x ≡ a) × settled_from x R (b ∷ ys)). from_stands x xs R f b ys t.1) (λ (t : R (a ∷ b ∷ ys)).
      let u = f a (b ∷ ys) t in
      (suc u.0, u.1)) h

  answer_stands : (xs : List T) (a : T) (ys : List T) → Settled xs (a ∷ ys) → Stands (last_or a ys) xs
  answer_stands [] a ys h = absurd h
  answer_stands (x ∷ xs) a ys h = from_stands x xs (Settled xs) (answer_stands xs) a ys h

  pub last_stands : (x : T) (xs ys : List T) → Settled (x ∷ xs) ys → Stands (last_or x ys) (x ∷ xs)
  last_stands x xs [] h = (0, refl)
  last_stands x xs (a ∷ ys) h = answer_stands (x ∷ xs) a ys h

  pub stands_more : (x : T) (xs more : List T) → Stands x xs → Stands x (xs ++ more)
  stands_more x xs more h = (h.0, at_longer xs more h.0 x h.1)

  pub stands_last : (x : T) (xs : List T) → Stands (last_or x xs) (x ∷ xs)
  stands_last x [] = (0, refl)
  stands_last x (y ∷ xs) = let u = stands_last y xs in (suc u.0, u.1)

  pub all_each : (P Q : T → Type 0) → ((x : T) → P x → Q x) → (xs : List T) → All P xs → All Q xs
  all_each P Q f xs h k d l = f (get_or xs k d) (h k d l)

  pub all_one : (P : T → Type 0) (x : T) → P x → All P (x ∷ [])
  all_one P x p zero d l = p
  all_one P x p (suc k) d l = absurd (omega arith)

  pub all_snoc : (P : T → Type 0) (xs : List T) (x : T) → All P xs → P x → All P (xs ++ x ∷ [])
  all_snoc P xs x h p = All-append P xs (x ∷ []) h (all_one P x p)

module _ {T : Type 0} (fits : T → Type 0) (rises : T → T → Type 0) where
  pub rising_snoc : (x : T) (ys : List T) (z : T) → Rising fits rises x ys → fits z → rises (last_or x ys) z →
      Rising fits rises x (ys ++ z ∷ [])
  rising_snoc x [] z h f g = (f, g, tt)
  rising_snoc x (y ∷ ys) z h f g = (h.0, h.1, rising_snoc y ys z h.2 f g)

  pub last_fits : (x : T) (ys : List T) → fits x → Rising fits rises x ys → fits (last_or x ys)
  last_fits x [] f h = f
  last_fits x (y ∷ ys) f h = last_fits y ys h.0 h.2

  module _ (same : (a : T) → rises a a) (along : (a b c : T) → rises a b → rises b c → rises a c) where
    pub last_rises : (x : T) (ys : List T) → Rising fits rises x ys → rises x (last_or x ys)
    last_rises x [] h = same x
    last_rises x (y ∷ ys) h = along x y (last_or y ys) h.1 (last_rises y ys h.2)

    -- the last record rises from each
    pub stands_below : (x : T) (ys : List T) (t : T) → Rising fits rises x ys → Stands t (x ∷ ys) → rises t (last_or x ys)
    stands_below x ys t h (zero, e) = subst (λ (z : T). rises z (last_or x ys)) (some-injective x t e) (last_rises x ys h)
    stands_below x [] t h (suc k, e) = absurd (some-ne-none t (sym e))
    stands_below x (y ∷ ys) t h (suc k, e) = stands_below y ys t h.2 (k, e)

module _ {S : Type 0} where
  -- one slot is held, with some value
  pub one_held : (cs : List (ℕ × S)) (k : ℕ) → held_slots cs ≡ k ∷ [] → (x : S) × (cs ≡ (k, x) ∷ [])
  one_held [] k e = absurd (cc)
  one_held (c ∷ []) k e = let first : c.0 ≡ k = cc in (c.1, λ i. (first i, c.1) ∷ [])
  one_held (c ∷ d ∷ cs) k e = absurd (cc)

  pub may_exchange : (cs : List (ℕ × S)) (k : ℕ) → held_slots cs ≡ k ∷ [] → (x : S) × (cs ≡ (k, x) ∷ rest cs)
  may_exchange cs k e = let t = one_held cs k e in (t.0, t.1 ∙ ap (λ (ds : List (ℕ × S)). (k, t.0) ∷ rest ds) (sym t.1))

  pub none_behind : (cs : List (ℕ × S)) (k : ℕ) → held_slots cs ≡ k ∷ [] → rest cs ≡ []
  none_behind cs k e = ap rest (one_held cs k e).1

module _ {T : Type 0} where
  pub take_more : (n m : ℕ) (xs : List T) → n ≤ m → (more : List T) × (take m xs ≡ take n xs ++ more)
  take_more zero m xs l = (take m xs, refl)
  take_more (suc n) zero xs l = absurd (omega arith)
  take_more (suc n) (suc m) [] l = ([], refl)
  take_more (suc n) (suc m) (x ∷ xs) l = let t = take_more n m xs (omega arith) in (t.0, ap (λ ys. x ∷ ys) t.1)

  pub last_take : (o : T) (ws : List T) (n : ℕ) (x : T) → get_elem? (o ∷ ws) n ≡ some x → last_or o (take n ws) ≡ x
  last_take o ws zero x e = some-injective o x e
  last_take o [] (suc n) x e = absurd (some-ne-none x (sym e))
  last_take o (w ∷ ws) (suc n) x e = last_take w ws n x e

  pub at_take : (ws : List T) (n k : ℕ) (x : T) → get_elem? (take n ws) k ≡ some x → (k < n) × (get_elem? ws k ≡ some x)
  at_take ws zero k x e = absurd (some-ne-none x (sym e))
  at_take [] (suc n) k x e = absurd (some-ne-none x (sym e))
  at_take (w ∷ ws) (suc n) zero x e = (omega arith, e)
  at_take (w ∷ ws) (suc n) (suc k) x e = let t = at_take ws n k x e in (omega arith, t.1)

  -- one more answer, at a place that is no lower
  pub settled_at : (o : T) (ws ys : List T) (t n : ℕ) (x : T) → Settled (o ∷ take t ws) ys → t ≤ n → get_elem? (o ∷ ws) n ≡ some x →
      Settled (o ∷ take n ws) (ys ++ x ∷ [])
  settled_at o ws ys t n x h l e = let m = take_more t n ws l in
      let longer : Settled (o ∷ take n ws) ys =
      subst (λ (zs : List T). Settled (o ∷ zs) ys) (sym m.1) (settled_more (o ∷ take t ws) m.0 ys h) in
      subst (λ (z : T). Settled (o ∷ take n ws) (ys ++ z ∷ [])) (last_take o ws n x e) (settled_last o (take n ws) ys longer)

  pub last_by : (o : T) (ws ys : List T) (t : ℕ) → Settled (o ∷ take t ws) ys →
      (k : ℕ) × (k ≤ t) × (get_elem? (o ∷ ws) k ≡ some (last_or o ys))
  last_by o ws ys t h =
      let s = last_stands o (take t ws) ys h in
      let u = at_take (o ∷ ws) (suc t) s.0 (last_or o ys) s.1 in
      (s.0, omega arith, u.1)

module _ {T : Type 0} (fits : T → Type 0) (rises : T → T → Type 0) (same : (a : T) → rises a a)
    (along : (a b c : T) → rises a b → rises b c → rises a c) where
  pub rises_at : (o : T) (ws : List T) (k n : ℕ) (x y : T) → Rising fits rises o ws → k ≤ n → get_elem? (o ∷ ws) k ≡ some x →
      get_elem? (o ∷ ws) n ≡ some y → rises x y
  rises_at o ws zero zero x y h l e f = subst (rises x) (some-injective x y (sym e ∙ f)) (same x)
  rises_at o [] zero (suc n) x y h l e f = absurd (some-ne-none y (sym f))
  rises_at o (w ∷ ws) zero (suc n) x y h l e f =
      along x w y (subst (λ (z : T). rises z w) (some-injective o x e) h.1) (rises_at w ws zero n w y h.2 (omega arith) refl f)
  rises_at o ws (suc k) zero x y h l e f = absurd (omega arith)
  rises_at o [] (suc k) (suc n) x y h l e f = absurd (some-ne-none y (sym f))
  rises_at o (w ∷ ws) (suc k) (suc n) x y h l e f = rises_at w ws k n x y h.2 (omega arith) e f

  pub fits_at : (o : T) (ws : List T) (n : ℕ) (x : T) → fits o → Rising fits rises o ws → get_elem? (o ∷ ws) n ≡ some x → fits x
  fits_at o ws zero x f h e = subst fits (some-injective o x e) f
  fits_at o [] (suc n) x f h e = absurd (some-ne-none x (sym e))
  fits_at o (w ∷ ws) (suc n) x f h e = fits_at w ws n x h.0 h.2 e

-- what is known of each seat's view is known still where the view of one seat is replaced
pub seats_stay : {V : Type 0} (K : ℕ → V → Type 0) (vs : List V) (me : ℕ) (w : V) → K me w →
    ((j : ℕ) (d : V) → j ≢ me → get_elem? vs j ≡ some d → K j d) →
    (j : ℕ) (d : V) → get_elem? (set vs me w) j ≡ some d → K j d
seats_stay {V} K vs me w mine others j d e =
    ⊎_elim (λ (t : (j ≡ me) × (w ≡ d)). subst (λ (x : ℕ × V). K x.0 x.1) (λ i. (sym t.0 i, t.1 i)) mine)
    (λ (t : (j ≢ me) × (get_elem? vs j ≡ some d)). others j d t.0 t.1) (at_set vs me j w d e)
