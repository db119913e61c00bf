-- The front of an order lists what the order lists before its end.
use Rattle.std.proofs.Common.{◌≡◌, ℕ, ◌<◌, ◌≤◌, Bool, List, [], ◌∷◌, length, take, get_or, slice_get, Some, zero, suc, arith, sym, ◌∙◌, ap}
use Rattle.std.proofs.Common.{subst}
use Rattle.std.proofs.lemmas.List.{take-take}
use Rattle.std.proofs.lemmas.Option.{option_and_then_some, get_or_from_slice_get}
use Rattle.std.specs.Option.{option_and_then}
use Rattle.history_core.specs.declared.history.Op.{Op}
use Rattle.history_core.specs.Orders.{KeepsLimit, latest, listed_at, ListsPlaces, ReadsLatest, ReadsRight, writes_in}
use Rattle.history_check.proofs.Forwards.{ReadsUpTo}

pub front_get : {X : Type 0} (n : ℕ) (xs : List X) (i : ℕ) (x : X) → slice_get (take n xs) i ≡ Some x → (i < n) × (slice_get xs i ≡ Some x)
front_get zero xs i x h = cc
front_get (suc n) [] i x h = cc
front_get (suc n) (y ∷ ys) zero x h = (omega arith, h)
front_get (suc n) (y ∷ ys) (suc i) x h = let w = front_get n ys i x h in (omega (arith, w.0), w.1)

pub get_front : {X : Type 0} (n : ℕ) (xs : List X) (i : ℕ) (x : X) → i < n → slice_get xs i ≡ Some x → slice_get (take n xs) i ≡ Some x
get_front zero xs i x l h = absurd (omega arith)
get_front (suc n) [] i x l h = cc
get_front (suc n) (y ∷ ys) zero x l h = h
get_front (suc n) (y ∷ ys) (suc i) x l h = get_front n ys i x (omega arith) h

module _ {R : Type 0} where
  pub listed_front : (ops : List (Op R)) (order : List ℕ) (n i : ℕ) (o : Op R) → listed_at ops (take n order) i ≡ Some o →
      (i < n) × (listed_at ops order i ≡ Some o)
  listed_front ops order n i o h =
      option_and_then_some (slice_get ops) (slice_get (take n order) i) o h
      (λ p e f. let w = front_get n order i p e in (w.0, ap (option_and_then (slice_get ops)) w.1 ∙ f))

  pub places_front : (ops : List (Op R)) (order : List ℕ) (n : ℕ) → ((k : ℕ) → k < n → get_or order k 0 < length ops) →
      ListsPlaces ops (take n order)
  places_front ops order n within i p h =
      let w = front_get n order i p h in
      let e : get_or order i 0 ≡ p = get_or_from_slice_get order i p 0 w.1 in
      omega (arith, within i w.0)

  pub places_of_front : (ops : List (Op R)) (order : List ℕ) (n : ℕ) → ListsPlaces ops order → ListsPlaces ops (take n order)
  places_of_front ops order n places i p h = places i p (front_get n order i p h).1

  pub reads_front : (Same : R → R → Type 0) (opening : R) (ops : List (Op R)) (order : List ℕ) (n : ℕ) →
      ReadsUpTo Same opening ops order n → ReadsLatest Same opening ops (take n order)
  reads_front Same opening ops order n reads i o h =
      let w = listed_front ops order n i o h in
      let le : i ≤ n = omega (arith, w.0) in
      let P : List ℕ → Type 0 = λ xs. ReadsRight Same o.kind o.item (latest opening ops xs) in
      subst P (sym (take-take i n order le)) (reads i o w.0 w.1)

  -- a shorter front keeps the limit that a longer one keeps
  pub limit_front : (within : ℕ → Bool) (limit : ℕ) (ops : List (Op R)) (order : List ℕ) (m n : ℕ) → m ≤ n →
      KeepsLimit within limit ops (take n order) → KeepsLimit within limit ops (take m order)
  limit_front within limit ops order m n le kept i p o e f k b =
      let w = front_get m order i p e in
      let lt : i < n = omega (arith, w.0) in
      let in_n : slice_get (take n order) i ≡ Some p = get_front n order i p lt w.1 in
      let h : limit ≤ writes_in within ops (take i (take n order)) = kept i p o in_n f k b in
      let le_n : i ≤ n = omega arith in
      let le_m : i ≤ m = omega (arith, w.0) in
      let a = ap (writes_in within ops) (take-take i n order le_n) in
      let c = ap (writes_in within ops) (take-take i m order le_m) in
      omega arith
