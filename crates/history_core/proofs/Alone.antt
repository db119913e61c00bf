-- A read that meets no write has the number of writes before it: no less by `late`, and no more by `begun`.
use Rattle.std.proofs.Common.{◌≡◌, ℕ, zero, suc, ◌+◌, ◌<◌, ◌≤◌, List, [], ◌∷◌, length, slice_get, Some, refl, ⊎_elim, arith}
use Rattle.std.proofs.Common.{subst}
use Rattle.std.proofs.lemmas.Bool.{cases_lt}
use Rattle.std.proofs.lemmas.Option.{slice_get_within}
use Rattle.history_core.specs.Registers.{Intervals, IsAlone, IsReadOf, IsRegular}

there : {X : Type 0} (xs : List X) (i : ℕ) → i < length xs → (x : X) × (slice_get xs i ≡ Some x)
there [] i l = absurd (omega arith)
there (z ∷ xs) zero l = (z, refl)
there (z ∷ xs) (suc i) l = there xs i (omega arith)

module _ (writes reads : Intervals) (m : ℕ) where
  no_less : (count n : ℕ) → IsReadOf writes reads m n → IsAlone writes reads m count → count ≤ n
  no_less zero n is alone = omega arith
  no_less (suc k) n is alone = let l : k < n = is.late k (alone.before k (let l : k < suc k = omega arith in l)) in omega arith

  no_more : (count n : ℕ) → IsReadOf writes reads m n → IsAlone writes reads m count → n ≤ count
  no_more count zero is alone = omega arith
  no_more count (suc k) is alone = ⊎_elim (λ (l : k < count). let z : suc k ≤ count = omega arith in z)
      (λ (l : count ≤ k). absurd (alone.after k l (is.begun k (let e : suc k ≡ k + 1 = omega arith in e)))) (cases_lt k count)

pub alone_is_last : {R : Type 0} (opening : R) (written : List R) (writes : Intervals)
    (answers : List R) (numbers : List ℕ) (reads : Intervals)
    (m count : ℕ) (answer : R) → IsRegular opening written writes answers numbers reads → IsAlone writes reads m count →
    slice_get answers m ≡ Some answer → slice_get (opening ∷ written) count ≡ Some answer
alone_is_last opening written writes answers numbers reads m count answer is alone at =
    let inside : m < length answers = slice_get_within answers m answer at in
    let counted : length numbers ≡ length answers = is.numbered in
    let n = there numbers m (let l : m < length numbers = omega arith in l) in
    let of = is.read_of m n.0 n.1 in
    let least : count ≤ n.0 = no_less writes reads m count n.0 of alone in
    let most : n.0 ≤ count = no_more writes reads m count n.0 of alone in
    subst (λ z. slice_get (opening ∷ written) z ≡ Some answer) (let e : n.0 ≡ count = omega arith in e) (is.source m n.0 answer n.1 at)
