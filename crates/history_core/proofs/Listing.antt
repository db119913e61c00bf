-- Orders without an entry that stands twice: how often a place stands, and counts of entries at rising places.
use Rattle.std.proofs.Common.{◌≡◌, ◌≢◌, ℕ, ◌+◌, ◌<◌, ◌≤◌, Bool, true, false, cond, nat_eq, List, [], ◌∷◌, length, take, get_or, slice_get}
use Rattle.std.proofs.Common.{Option, None, Some, zero, suc, ◌⊎◌, inl, inr, refl, ◌∙◌, ap, arith}
use Rattle.std.specs.List.{count_by}
use Rattle.std.proofs.lemmas.Bool.{cases_eq}
use Rattle.std.proofs.lemmas.Bool.Decides.{nat_tests}
use Rattle.std.proofs.lemmas.List.{take-take}
use Rattle.std.proofs.lemmas.List.Sums.{count_by_more_yes, sum_by-cons, sum_by-take-le}
use Rattle.std.proofs.lemmas.Option.{get_or_from_slice_get, same_Some, slice_get_within}
use Rattle.history_core.specs.declared.history.Op.{Op}
use Rattle.history_core.specs.declared.history.Kind.{Kind}
use Rattle.history_core.specs.declared.history.Kind.TheVariants.{Write, Read, Refused}
use Rattle.history_core.specs.Numbers.{StandsAt}
use Rattle.history_core.specs.Orders.{IsListing, is_write, ListsPlaces, MayStand, times_of}

-- no entry stands twice
abbrev pub StandsOnce : List ℕ → Type 0
StandsOnce order = (i j p : ℕ) → slice_get order i ≡ Some p → slice_get order j ≡ Some p → i ≡ j

-- an entry more at the beginning
pub times_cons : (p x : ℕ) (xs : List ℕ) → times_of p (x ∷ xs) ≡ cond (nat_eq x p) 1 0 + times_of p xs
times_cons p x xs = sum_by-cons (λ q. cond (nat_eq q p) 1 0) x xs

times_same : (p x : ℕ) (xs : List ℕ) → x ≡ p → times_of p (x ∷ xs) ≡ 1 + times_of p xs
times_same p x xs e = let t : nat_eq x p ≡ true = grind (arith, nat_tests) in times_cons p x xs ∙ ap (λ b. cond b 1 0 + times_of p xs) t

times_other : (p x : ℕ) (xs : List ℕ) → x ≢ p → times_of p (x ∷ xs) ≡ times_of p xs
times_other p x xs ne =
    let f : nat_eq x p ≡ false = grind (arith, nat_tests) in
    times_cons p x xs ∙ ap (λ b. cond b 1 0 + times_of p xs) f ∙ omega arith

-- a place stands somewhere, or nowhere
pub times_cases : (p : ℕ) (order : List ℕ) → ((i : ℕ) × (slice_get order i ≡ Some p)) ⊎ (times_of p order ≡ 0)
times_cases p [] = inr refl
times_cases p (x ∷ xs) = elim (cases_eq x p) [
  | inl e ↦ inl (0, ap Some e)
  | inr ne ↦ elim (times_cases p xs) [ inl w ↦ inl (suc w.0, w.1) | inr z ↦ inr (times_other p x xs ne ∙ z) ]
]

pub times_nowhere : (p : ℕ) (order : List ℕ) → ((i : ℕ) → slice_get order i ≢ Some p) → times_of p order ≡ 0
times_nowhere p [] none = refl
times_nowhere p (x ∷ xs) none = times_other p x xs (λ e. none 0 (ap Some e)) ∙ times_nowhere p xs (λ i. none (suc i))

pub times_once : (p i : ℕ) (order : List ℕ) → StandsOnce order → slice_get order i ≡ Some p → times_of p order ≡ 1
times_once p i [] once e = cc
times_once p zero (x ∷ xs) once e =
    times_same p x xs (same_Some x p e) ∙ ap (λ n. 1 + n) (times_nowhere p xs (λ j f.
    let z = once 0 (suc j) p e f in
    omega arith)) ∙ omega arith
times_once p (suc i) (x ∷ xs) once e =
    times_other p x xs (λ s. let z = once 0 (suc i) p (ap Some s) e in omega arith)
    ∙ times_once p i xs (λ j k q a b. let z = once (suc j) (suc k) q a b in omega arith) e

module _ {R : Type 0} where
  -- listing: entries are places, none twice, each finished operation is there, and of the unfinished ones writes alone
  pub listing_from : (ops : List (Op R)) (order : List ℕ) → ListsPlaces ops order → StandsOnce order →
      ((p end : ℕ) (o : Op R) → slice_get ops p ≡ Some o → o.ends ≡ Some end → (i : ℕ) × (slice_get order i ≡ Some p)) →
      ((i p : ℕ) (o : Op R) → StandsAt ops order i p o → o.ends ≡ None → is_write o.kind ≡ true) → IsListing ops order
  listing_from ops order places once finished unfinished = record {
    places = places;
    stands = λ p o _ _ e. stands p o e o.ends o.kind refl refl;
  }
    where
      stands : (p : ℕ) (o : Op R) → slice_get ops p ≡ Some o → (ends : Option ℕ) (kind : Kind) → o.ends ≡ ends → o.kind ≡ kind →
          MayStand ends kind (times_of p order)
      stands p o e (Some end) kind en k = let w = finished p end o e en in times_once p w.0 order once w.1
      stands p o e None Write en k = elim (times_cases p order) [
        | inl w ↦
            let t = times_once p w.0 order once w.1 in
            omega arith
        | inr z ↦ omega arith
      ]
      stands p o e None Read en k = elim (times_cases p order) [
        | inl w ↦
            let t : is_write o.kind ≡ true = unfinished w.0 p o (w.1, e) en in
            let f : is_write o.kind ≡ false = ap is_write k in
            cc
        | inr z ↦ z
      ]
      stands p o e None Refused en k = elim (times_cases p order) [
        | inl w ↦
            let t : is_write o.kind ≡ true = unfinished w.0 p o (w.1, e) en in
            let f : is_write o.kind ≡ false = ap is_write k in
            cc
        | inr z ↦ z
      ]

count_grows : (test : ℕ → Bool) (xs : List ℕ) (m n : ℕ) → m ≤ n → count_by test (take m xs) ≤ count_by test (take n xs)
count_grows test xs m n le =
    let e : count_by test (take m (take n xs)) ≡ count_by test (take m xs) = ap (count_by test) (take-take m n xs le) in
    let h : count_by test (take m (take n xs)) ≤ count_by test (take n xs) = sum_by-take-le (λ x. cond (test x) 1 0) (take n xs) m in
    omega arith

-- n entries at rising places before `top` that pass a test are n at least
pub count_rising : (test : ℕ → Bool) (xs : List ℕ) (place : ℕ → ℕ) (n top : ℕ) →
    ((k : ℕ) → k < n → (x : ℕ) × (slice_get xs (place k) ≡ Some x) × (test x ≡ true)) → ((k : ℕ) → k < n → place k < top) →
    ((k m : ℕ) → k < m → m < n → place k < place m) → n ≤ count_by test (take top xs)
count_rising test xs place zero top passes below rising = omega arith
count_rising test xs place (suc n) top passes below rising =
    let w = passes n (omega arith) in
    let before : n ≤ count_by test (take (place n) xs) = count_rising test xs place n (place n) (λ k l. passes k (omega arith))
    (λ k l. rising k n l (omega arith)) (λ k m km l. rising k m km (omega arith)) in
    let within : place n < length xs = slice_get_within xs (place n) w.0 w.1 in
    let value : get_or xs (place n) 0 ≡ w.0 = get_or_from_slice_get xs (place n) w.0 0 w.1 in
    let more : count_by test (take (place n + 1) xs) ≡ count_by test (take (place n) xs) + 1 =
    count_by_more_yes test xs (place n) 0 within (ap test value ∙ w.2) in
    let up : count_by test (take (place n + 1) xs) ≤ count_by test (take top xs) =
    count_grows test xs (place n + 1) top (let b = below n (omega arith) in omega arith) in
    omega arith
