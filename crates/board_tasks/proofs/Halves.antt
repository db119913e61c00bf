-- Jobs done to two halves of a list.
use Rattle.std.proofs.Common.{◌≡◌, ℕ, zero, suc, ◌+◌, ◌<◌, List, [], ◌∷◌, ◌++◌, length, refl, sym, ◌∙◌, ap, arith, ◌⊎◌, inl, inr}
use Rattle.std.proofs.Common.{⊎_elim, length-append}
use Rattle.std.specs.Prelude.{slice_get, Some}
use Rattle.std.proofs.lemmas.Option.{slice_get_within}
use Rattle.board_tasks.specs.Jobs.{EachStep}

-- an element of two lists in a row is in one of them
pub get_either : {X : Type 0} (a b : List X) (n : ℕ) (x : X) → slice_get (a ++ b) n ≡ Some x
    → (slice_get a n ≡ Some x) ⊎ ((k : ℕ) × (n ≡ length a + k) × (slice_get b k ≡ Some x))
get_either [] b n x h = inr (n, omega arith, h)
get_either (y ∷ a) b zero x h = inl h
get_either (y ∷ a) b (suc n) x h =
    ⊎_elim (λ p. inl p) (λ q. inr (q.0, (let e : n ≡ length a + q.0 = q.1 in omega arith), q.2)) (get_either a b n x h)

-- both halves, one after the other
pub steps_both : {X : Type 0} (R : ℕ → X → X → Type 0) (first second : ℕ) (a a' b b' : List X) → second ≡ first + length a
    → EachStep R first a a' → EachStep R second b b' → EachStep R first (a ++ b) (a' ++ b')
steps_both R first second a a' b b' e f s = record {
  lengths = let p = f.lengths in let q = s.lengths in omega (arith, length-append a b, length-append a' b');
  each = λ k x y p q. ⊎_elim
      (λ pa. ⊎_elim (λ qa. f.each k x y pa qa)
      (λ (qb : (j : ℕ) × (k ≡ length a' + j) × (slice_get b' j ≡ Some y)). let e1 : k ≡ length a' + qb.0 = qb.1 in
      absurd (omega (arith, slice_get_within a k x pa, f.lengths)))
      (get_either a' b' k y q))
      (λ (pb : (j : ℕ) × (k ≡ length a + j) × (slice_get b j ≡ Some x)).
      ⊎_elim (λ qa. let e1 : k ≡ length a + pb.0 = pb.1 in absurd (omega (arith, slice_get_within a' k y qa, f.lengths)))
      (λ (qb : (j : ℕ) × (k ≡ length a' + j) × (slice_get b' j ≡ Some y)).
      let e1 : k ≡ length a + pb.0 = pb.1 in let e2 : k ≡ length a' + qb.0 = qb.1 in
      let same : qb.0 ≡ pb.0 = omega (arith, f.lengths) in
      let at : slice_get b' pb.0 ≡ Some y = rw same at qb.2 in
      let num : first + k ≡ second + pb.0 = omega arith in
      rw num (s.each pb.0 x y pb.2 at)) (get_either a' b' k y q))
      (get_either a b k x p);
}
