-- The records that stand for all, and one that isn't among others.
use Rattle.std.proofs.Common.{◌≡◌, ℕ, ◌+◌, ◌<◌, ◌≤◌, Bool, true, false, ◌||◌, not, cond, nat_eq, List, [], ◌∷◌, ◌++◌, length, slice_get}
use Rattle.std.proofs.Common.{zero, suc, Some, refl, sym, ◌∙◌, ap, arith, inl, inr}
use Rattle.std.proofs.lemmas.Bool.{cases_Bool, cases_lt}
use Rattle.std.proofs.lemmas.Option.{same_Some}
use Rattle.object_core.specs.declared.operation.Operation.{Operation}
use Rattle.object_core.specs.Logs.{IsLinearizable}
use Rattle.object_registers.specs.declared.exchanging.Exchange.{Exchange}
use Rattle.object_registers.specs.Registers.{exchanging_after}
use Rattle.object_sweep.specs.Reached.{is_in, without}
use Rattle.object_sweep.proofs.Lists.{at_is_in, get_front, get_last, without_other}
use Rattle.object_window.specs.Losses.{asked_of, holding, IsUnasked}
use Rattle.object_window.specs.Windows.{IsLostAnywhere}
use Rattle.object_window.specs.inner.Openings.{HaveAsked, HaveOneMore, StandForAll}
use Rattle.object_window.proofs.Alike.{unasked}

-- one less, without one that is among them
shorter : (q : ℕ) (xs : List ℕ) → is_in q xs ≡ true → length (without q xs) < length xs
shorter q [] h = cc
shorter q (x ∷ xs) h = by_test (nat_eq x q) refl h (long q xs) (shorter q xs)
  where
    long : (p : ℕ) (ys : List ℕ) → length (without p ys) ≤ length ys
    long p [] = omega arith
    long p (y ∷ ys) = here (nat_eq y p) (long p ys)
      where
        here : (b : Bool) → length (without p ys) ≤ length ys → length (cond (not b) (y ∷ without p ys) (without p ys)) ≤ length (y ∷ ys)
        here true l = omega (arith, l)
        here false l = omega (arith, l)

    by_test : (b : Bool) → nat_eq x q ≡ b → (b || is_in q xs) ≡ true → length (without q xs) ≤ length xs →
        (is_in q xs ≡ true → length (without q xs) < length xs) → length (cond (not b) (x ∷ without q xs) (without q xs)) < length (x ∷ xs)
    by_test true e i l more = omega (arith, l)
    by_test false e i l more = let m = more i in omega (arith, m)

-- as many numbers as are all among these are no more than these
pub few_among : (n : ℕ) (xs : List ℕ) → ((m : ℕ) → m < n → is_in m xs ≡ true) → n ≤ length xs
few_among zero xs all = omega arith
few_among (suc n) xs all =
    let less = shorter n xs (all n (omega arith)) in
    let rest = few_among n (without n xs) (λ m l. without_other xs n m (λ e. absurd (omega (arith, e, l))) ∙ all m (omega (arith, l))) in
    omega (arith, less, rest)

-- what is asked for, and one other
module _ (log : List (Operation Exchange)) where
  pub one_more : (n : ℕ) (records more : List ℕ) → ((i value : ℕ) (o : Operation Exchange) → i < n → slice_get log i ≡ Some o →
      asked_of o.what ≡ Some value → is_in value records ≡ true) → (o : Operation Exchange) → slice_get log n ≡ Some o →
      HaveOneMore records more o.what → (i value : ℕ) (a : Operation Exchange) → i < n + 1 → slice_get log i ≡ Some a →
      asked_of a.what ≡ Some value → is_in value more ≡ true
  one_more n records more yet o at h i value a l ia asks = elim (cases_lt i n) [
    | inl less ↦ h.0 value (yet i value a less ia asks)
    | inr le ↦
        let e : i ≡ n = omega (arith, l, le) in
        let same : a ≡ o = same_Some a o (sym ia ∙ (ap (slice_get log) e ∙ at)) in
        h.1 value (ap (λ (z : Operation Exchange). asked_of z.what) (sym same) ∙ asks)
  ]

  stranger : (records : List ℕ) → HaveAsked log records → (value : ℕ) → is_in value records ≡ false → IsUnasked log value
  stranger records asked value none i o at asks = let there = asked i value o at asks in cc

  pub all_stand : (records : List ℕ) (other : ℕ) → HaveAsked log records → is_in other records ≡ false →
      StandForAll log (records ++ other ∷ [])
  all_stand records other asked none any = elim (cases_Bool (is_in any records)) [
    | inl there ↦ let w = at_is_in records any there in (w.0, any, get_front records (other ∷ []) w.0 any w.1, λ h. h)
    | inr stranger_too ↦ (
      length records,
      other,
      get_last records other,
      λ h. (
        h.0,
        unasked log any other h.0 (stranger records asked any stranger_too) (stranger records asked other none) h.1,
      ),
    )
  ]

  pub lost_from_all : (records : List ℕ) → StandForAll log records →
      ((i value : ℕ) → slice_get records i ≡ Some value → ¬ IsLinearizable exchanging_after (holding value) log) → IsLostAnywhere log
  lost_from_all records stand lost opening h =
      let w = stand opening.held in lost w.0 w.1 w.2 (w.3 h)
