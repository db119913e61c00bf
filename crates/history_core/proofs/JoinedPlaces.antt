-- Two lists one after the other, the places of the second moved on: an entry is one of the first list, or one of the second
-- with its place moved on.
use Rattle.std.proofs.Common.{◌≡◌, ℕ, ◌+◌, ◌<◌, Bool, false, cond, nat_eq, List, [], ◌∷◌, ◌++◌, length, take, slice_get, Some, arith, refl}
use Rattle.std.proofs.Common.{sym, ◌∙◌, ap, ◌⊎◌, inl, inr, zero, suc}
use Rattle.std.specs.List.{count_by}
use Rattle.std.proofs.Math.Seq.{take-append-add}
use Rattle.std.proofs.lemmas.Bool.Decides.{nat_tests}
use Rattle.std.proofs.lemmas.List.{take-append-le, take-map}
use Rattle.std.proofs.lemmas.List.Sums.{sum_by-append, sum_by-cons}
use Rattle.std.proofs.lemmas.Option.{option_and_then_some}
use Rattle.history_core.specs.declared.history.Op.{Op}
use Rattle.history_core.specs.Joined.{order_after}
use Rattle.history_core.specs.Orders.{listed_at, ListsPlaces, times_of}
use Rattle.history_core.proofs.Places.{get_after, get_before}

pub taken : {X : Type 0} (n : ℕ) (xs : List X) (i : ℕ) (x : X) → slice_get (take n xs) i ≡ Some x → slice_get xs i ≡ Some x
taken zero xs i x h = cc
taken (suc n) [] i x h = h
taken (suc n) (y ∷ xs) zero x h = h
taken (suc n) (y ∷ xs) (suc i) x h = taken n xs i x h

-- an element of two lists is one of the first or one of the second
pub get_cases : {X : Type 0} (xs ys : List X) (i : ℕ) (x : X) → slice_get (xs ++ ys) i ≡ Some x →
    ((i < length xs) × (slice_get xs i ≡ Some x)) ⊎ ((j : ℕ) × (i ≡ length xs + j) × (slice_get ys j ≡ Some x))
get_cases [] ys i x h = inr (i, omega arith, h)
get_cases (y ∷ xs) ys zero x h = inl (omega arith, h)
get_cases (y ∷ xs) ys (suc i) x h = elim (get_cases xs ys i x h) [
  | inl w ↦ inl (let l = w.0 in omega arith, w.1)
  | inr w ↦ inr (w.0, let e = w.1 in omega arith, w.2)
]

pub get_moved : (count : ℕ) (order : List ℕ) (i p : ℕ) → slice_get (order_after count order) i ≡ Some p →
    (q : ℕ) × (p ≡ count + q) × (slice_get order i ≡ Some q)
get_moved count [] i p h = cc
get_moved count (q ∷ order) zero p h = (q, let e : count + q ≡ p = cc in sym e, refl)
get_moved count (q ∷ order) (suc i) p h = get_moved count order i p h

-- the entries before one of the first list, and those before one of the second
pub take_before : (count : ℕ) (order after : List ℕ) (i : ℕ) → i < length order → take i (order ++ order_after count after) ≡ take i order
take_before count order after i l = take-append-le i order (order_after count after) (omega arith)

pub take_after : (count : ℕ) (order after : List ℕ) (j : ℕ) →
    take (length order + j) (order ++ order_after count after) ≡ order ++ order_after count (take j after)
take_after count order after j =
    take-append-add order (order_after count after) j ∙ ap (λ xs. order ++ xs) (take-map (λ p. count + p) j after)

-- an entry of a joined order
abbrev pub IsEntryOf : (count : ℕ) → List ℕ → List ℕ → ℕ → ℕ → Type 0
IsEntryOf count order after i p =
    ((i < length order) × (slice_get order i ≡ Some p))
    ⊎ ((j : ℕ) × (q : ℕ) × (i ≡ length order + j) × (p ≡ count + q) × (slice_get after j ≡ Some q))

pub entry_cases : (count : ℕ) (order after : List ℕ) (i p : ℕ) → slice_get (order ++ order_after count after) i ≡ Some p →
    IsEntryOf count order after i p
entry_cases count order after i p h = elim (get_cases order (order_after count after) i p h) [
  | inl w ↦ inl w
  | inr w ↦ let m = get_moved count after w.0 p w.2 in inr (w.0, m.0, w.1, m.1, m.2)
]

module _ {R : Type 0} where
  -- what a joined order lists
  pub listed_cases : (ops later : List (Op R)) (order after : List ℕ) (i : ℕ) (o : Op R) → ListsPlaces ops order →
      listed_at (ops ++ later) (order ++ order_after (length ops) after) i ≡ Some o →
      ((i < length order) × (listed_at ops order i ≡ Some o)) ⊎ ((j : ℕ) × (i ≡ length order + j) × (listed_at later after j ≡ Some o))
  listed_cases ops later order after i o places h =
      option_and_then_some (slice_get (ops ++ later)) (slice_get (order ++ order_after (length ops) after) i) o h (λ p e f.
      elim (entry_cases (length ops) order after i p e) [
        | inl w ↦ let g = get_before ops later p (places i p w.1) in let s = w.1 in inl (w.0, cc)
        | inr w ↦
            let g = get_after ops later w.1 in
            let s = w.4 in
            let at : slice_get (ops ++ later) (length ops + w.1) ≡ Some o = ap (slice_get (ops ++ later)) (sym w.3) ∙ f in
            inr (w.0, w.2, cc)
      ])

  -- and from which place
  pub listed_place : (ops : List (Op R)) (order : List ℕ) (i : ℕ) (o : Op R) → listed_at ops order i ≡ Some o →
      (p : ℕ) × (slice_get order i ≡ Some p) × (slice_get ops p ≡ Some o)
  listed_place ops order i o h = option_and_then_some (slice_get ops) (slice_get order i) o h (λ p e f. (p, e, f))

-- counts of the entries of a joined order
pub count_join : (f : ℕ → Bool) (xs ys : List ℕ) → count_by f (xs ++ ys) ≡ count_by f xs + count_by f ys
count_join f xs ys = sum_by-append (λ x. cond (f x) 1 0) xs ys

pub count_none : (f : ℕ → Bool) (xs : List ℕ) → ((i p : ℕ) → slice_get xs i ≡ Some p → f p ≡ false) → count_by f xs ≡ 0
count_none f [] h = refl
count_none f (x ∷ xs) h =
    let r : count_by f xs ≡ 0 = count_none f xs (λ i p e. h (suc i) p e) in
    sum_by-cons (λ y. cond (f y) 1 0) x xs ∙ ap (λ b. cond b 1 0 + count_by f xs) (h 0 x refl) ∙ omega arith

pub count_moved : (f g : ℕ → Bool) (count : ℕ) (xs : List ℕ) → ((p : ℕ) → f (count + p) ≡ g p) →
    count_by f (order_after count xs) ≡ count_by g xs
count_moved f g count [] h = refl
count_moved f g count (x ∷ xs) h =
    sum_by-cons (λ y. cond (f y) 1 0) (count + x) (order_after count xs)
    ∙ ap (λ b. cond b 1 0 + count_by f (order_after count xs)) (h x)
    ∙ ap (λ n. cond (g x) 1 0 + n) (count_moved f g count xs h)
    ∙ sym (sum_by-cons (λ y. cond (g y) 1 0) x xs)

-- how often a place is listed
pub times_before : (count : ℕ) (order after : List ℕ) (p : ℕ) → p < count → times_of p (order ++ order_after count after) ≡ times_of p order
times_before count order after p l =
    let none : times_of p (order_after count after) ≡ 0 = count_none (λ q. nat_eq q p) (order_after count after)
    (λ i q e. let m = get_moved count after i q e in let s = m.1 in grind (arith, nat_tests)) in
    count_join (λ q. nat_eq q p) order (order_after count after) ∙ ap (λ n. times_of p order + n) none ∙ omega arith

pub times_after : (count : ℕ) (order after : List ℕ) (p : ℕ) → ((i q : ℕ) → slice_get order i ≡ Some q → q < count) →
    times_of (count + p) (order ++ order_after count after) ≡ times_of p after
times_after count order after p below =
    let none : times_of (count + p) order ≡ 0 =
    count_none (λ q. nat_eq q (count + p)) order (λ i q e. let l = below i q e in grind (arith, nat_tests)) in
    count_join (λ q. nat_eq q (count + p)) order (order_after count after)
    ∙ ap (λ n. n + times_of (count + p) (order_after count after)) none
    ∙ ap (λ n. 0 + n) (count_moved (λ q. nat_eq q (count + p)) (λ q. nat_eq q p) count after (λ q. grind (arith, nat_tests)))
    ∙ omega arith
