-- The order of a term as a list of places: what stands in it, by how often each place stands, and which of two comes first.
-- Of operations that stand in order of beginning the one at the smaller place began first.
use Rattle.std.proofs.Common.{◌≡◌, ◌≢◌, ℕ, zero, suc, ◌+◌, ◌<◌, ◌≤◌, Bool, true, false, cond, List, [], ◌∷◌, length, slice_get, Option}
use Rattle.std.proofs.Common.{None, Some, IsSome, refl, ◌∙◌, ap, arith, ◌⊎◌, inl, inr}
use Rattle.std.specs.Prelude.{◌||◌, is_some, nat_eq, if◌then◌else◌}
use Rattle.std.proofs.lemmas.Bool.{cases_Bool, cases_lt}
use Rattle.std.proofs.lemmas.Bool.Decides.{nat_tests}
use Rattle.std.proofs.lemmas.Option.{same_Some}
use Rattle.history_core.specs.declared.history.Op.{Op}
use Rattle.history_core.specs.Numbers.{StandsAt}
use Rattle.history_core.specs.Orders.{is_write, times_of}
use Rattle.history_core.proofs.Listing.{times_cases, times_cons}
use Rattle.matrix_core.specs.declared.stamp.Stamp.{Stamp}
use Rattle.matrix_core.specs.Choices.{BeginInTurn}
use Rattle.matrix_core.specs.Listings.{IsInOrder, is_listed, MayPrecede}
use Rattle.matrix_core.specs.Stamps.{IsBelow}
use Rattle.matrix_core.proofs.lists.Elements.{get_exists}

-- a place that stands is counted, and one that stands twice is counted twice
times_here : (p x : ℕ) (xs : List ℕ) → x ≡ p → times_of p (x ∷ xs) ≡ 1 + times_of p xs
times_here p x xs e = let t : nat_eq x p ≡ true = grind (arith, nat_tests) in times_cons p x xs ∙ ap (λ b. cond b 1 0 + times_of p xs) t

times_later : (p x : ℕ) (xs : List ℕ) → times_of p xs ≤ times_of p (x ∷ xs)
times_later p x xs = let e : times_of p (x ∷ xs) ≡ cond (nat_eq x p) 1 0 + times_of p xs = times_cons p x xs in omega arith

times_some : (p i : ℕ) (order : List ℕ) → slice_get order i ≡ Some p → 1 ≤ times_of p order
times_some p i [] e = cc
times_some p zero (x ∷ xs) e = let t : times_of p (x ∷ xs) ≡ 1 + times_of p xs = times_here p x xs (same_Some x p e) in omega arith
times_some p (suc i) (x ∷ xs) e =
    let h : 1 ≤ times_of p xs = times_some p i xs e in
    let g : times_of p xs ≤ times_of p (x ∷ xs) = times_later p x xs in
    omega arith

pub times_twice : (p i j : ℕ) (order : List ℕ) → i < j → slice_get order i ≡ Some p → slice_get order j ≡ Some p → 2 ≤ times_of p order
times_twice p i j [] l e f = cc
times_twice p zero zero (x ∷ xs) l e f = absurd (omega arith)
times_twice p zero (suc j) (x ∷ xs) l e f =
    let t : times_of p (x ∷ xs) ≡ 1 + times_of p xs = times_here p x xs (same_Some x p e) in
    let h : 1 ≤ times_of p xs = times_some p j xs f in
    omega arith
times_twice p (suc i) zero (x ∷ xs) l e f = absurd (omega arith)
times_twice p (suc i) (suc j) (x ∷ xs) l e f =
    let h : 2 ≤ times_of p xs = times_twice p i j xs (omega arith) e f in
    let g : times_of p xs ≤ times_of p (x ∷ xs) = times_later p x xs in
    omega arith

-- what the test of listing says
kept_of : (ends written : Bool) → (ends || written) ≡ true → (written ≡ true) ⊎ (ends ≡ true)
kept_of true written e = inr refl
kept_of false written e = inl e

listed_of : (ends written : Bool) → (written ≡ true) ⊎ (ends ≡ true) → (ends || written) ≡ true
listed_of true written h = refl
listed_of false written (inl w) = w
listed_of false written (inr e) = cc

module _ {R : Type 0} where
  -- the operation at this place has chosen a stamp, and is a write or finished
  pub record IsListed (ops : List (Op R)) (stamps : List (Option Stamp)) (p : ℕ) : Type 0 where
    pub op : Op R
    pub there : slice_get ops p ≡ Some op
    pub stamp : Stamp
    pub chosen : slice_get stamps p ≡ Some (Some stamp)
    pub kept : (is_write op.kind ≡ true) ⊎ IsSome op.ends

  -- of two operations with these stamps the first comes first
  abbrev pub ComesFirst : Stamp → Op R → Stamp → Op R → Type 0
  ComesFirst s a t b =
      IsBelow s t
      ⊎ ((s ≡ t) × (is_write a.kind ≡ true) × (is_write b.kind ≡ false))
      ⊎ ((s ≡ t) × (is_write a.kind ≡ is_write b.kind) × (a.starts < b.starts))

  -- exactly these stand in the order, and of two the one that stands first comes first
  pub record IsTermOrder (ops : List (Op R)) (stamps : List (Option Stamp)) (order : List ℕ) : Type 0 where
    pub listed : (i p : ℕ) → slice_get order i ≡ Some p → IsListed ops stamps p
    pub all : (p : ℕ) → IsListed ops stamps p → (i : ℕ) × (slice_get order i ≡ Some p)
    pub sorted : (i j p q : ℕ) (a b : Op R) (s t : Stamp) → StandsAt ops order i p a → StandsAt ops order j q b →
        slice_get stamps p ≡ Some (Some s) → slice_get stamps q ≡ Some (Some t) → i < j → ComesFirst s a t b

  module _ (ops : List (Op R)) (stamps : List (Option Stamp)) (order : List ℕ) (o : IsInOrder ops stamps order)
      (long : length stamps ≡ length ops) (turn : BeginInTurn ops) where
    -- the count of a place, by the test
    counted : (p : ℕ) (op : Op R) (stamp : Option Stamp) → slice_get ops p ≡ Some op → slice_get stamps p ≡ Some stamp → (t : Bool) →
        is_listed op stamp ≡ t → times_of p order ≡ (if t then 1 else 0)
    counted p op stamp e f t h = o.listed p op stamp e f ∙ ap (λ (b : Bool). if b then 1 else 0) h

    listed_with : (i p : ℕ) (op : Op R) (stamp : Option Stamp) → slice_get order i ≡ Some p → slice_get ops p ≡ Some op →
        slice_get stamps p ≡ Some stamp → IsListed ops stamps p
    listed_with i p op None at e f =
        let n : times_of p order ≡ 0 = counted p op None e f false refl in
        let m : 1 ≤ times_of p order = times_some p i order at in
        absurd (omega arith)
    listed_with i p op (Some s) at e f = elim (cases_Bool (is_listed op (Some s))) [
      | inl t ↦ record { op = op; there = e; stamp = s; chosen = f; kept = kept_of (is_some op.ends) (is_write op.kind) t }
      | inr t ↦
          let n : times_of p order ≡ 0 = counted p op (Some s) e f false t in
          let m : 1 ≤ times_of p order = times_some p i order at in
          absurd (omega arith)
    ]

    listed_at_place : (i p : ℕ) → slice_get order i ≡ Some p → IsListed ops stamps p
    listed_at_place i p at =
        let l : p < length ops = o.places i p at in
        let x = get_exists ops p l in
        let y = get_exists stamps p (omega arith) in
        listed_with i p x.0 y.0 at x.1 y.1

    each_stands : (p : ℕ) → IsListed ops stamps p → (i : ℕ) × (slice_get order i ≡ Some p)
    each_stands p l =
        let n : times_of p order ≡ 1 =
        counted p l.op (Some l.stamp) l.there l.chosen true (listed_of (is_some l.op.ends) (is_write l.op.kind) l.kept) in
        elim (times_cases p order) [ inl w ↦ w | inr z ↦ absurd (omega arith) ]

    not_twice : (i j p : ℕ) → i < j → slice_get order i ≡ Some p → slice_get order j ≢ Some p
    not_twice i j p l e f =
        let d : IsListed ops stamps p = listed_at_place i p e in
        let n : times_of p order ≡ 1 =
        counted p d.op (Some d.stamp) d.there d.chosen true (listed_of (is_some d.op.ends) (is_write d.op.kind) d.kept) in
        let m : 2 ≤ times_of p order = times_twice p i j order l e f in
        absurd (omega arith)

    comes_first : (i j p q : ℕ) (a b : Op R) (s t : Stamp) → StandsAt ops order i p a → StandsAt ops order j q b → i < j →
        MayPrecede s a p t b q → ComesFirst s a t b
    comes_first i j p q a b s t ai bj l (inl h) = inl h
    comes_first i j p q a b s t ai bj l (inr h) = elim h.1 [
      | inl w ↦ inr (inl (h.0, w.0, w.1))
      | inr w ↦
          let le : p ≤ q = w.1 in
          let apart : p < q = elim (cases_lt p q) [
            | inl r ↦ r
            | inr ge ↦ let same : q ≡ p = omega arith in absurd (not_twice i j p l ai.0 (bj.0 ∙ ap Some same))
          ] in
          inr (inr (h.0, w.0, turn p q a b ai.1 bj.1 apart))
    ]

    pub term_order : IsTermOrder ops stamps order
    term_order = record {
      listed = listed_at_place;
      all = each_stands;
      sorted = λ i j p q a b s t ai bj ps qt l. comes_first i j p q a b s t ai bj l (o.sorted i j p q a b s t l ai bj ps qt);
    }
