-- The latest end, and that a log is known whole from then on.
use Rattle.std.proofs.Common.{◌≡◌, ℕ, zero, suc, ◌+◌, ◌<◌, ◌≤◌, true, cond, nat_le, List, [], ◌∷◌, length, map, slice_get}
use Rattle.std.proofs.Common.{Option, None, Some, refl, sym, ◌∙◌, ap, subst, arith, inl, inr}
use Rattle.std.proofs.lemmas.Bool.{cases_lt}
use Rattle.std.proofs.lemmas.Bool.Decides.{nat_tests}
use Rattle.std.proofs.lemmas.Option.{same_Some, slice_get_within}
use Rattle.object_core.specs.declared.operation.Operation.{Operation}
use Rattle.object_watch.specs.Remainders.{known, known_end}
use Rattle.object_watch.specs.declared.remainder.Remainder.{Remainder}
use Rattle.object_watch.specs.inner.Levels.{IsLatest, IsLatestOf, later_end}

later_first : (most : ℕ) (ends : Option ℕ) → most ≤ later_end most ends
later_first most None = omega arith
later_first most (Some end) = omega arith

later_second : (most : ℕ) (ends : Option ℕ) (at : ℕ) → ends ≡ Some at → at ≤ later_end most ends
later_second most None at e = cc
later_second most (Some end) at e = let same = same_Some end at e in omega (arith, same)

module _ {W : Type 0} (rest : List (Operation W)) (most : ℕ) where
  pub latest_of_none : IsLatestOf 0 rest most most
  latest_of_none = record { above = omega arith; each = λ p at o l e f. absurd (omega (arith, l)) }

  pub latest_of_more : (n : ℕ) (o : Operation W) → slice_get rest n ≡ Some o → (latest : ℕ) → IsLatestOf n rest most latest →
      IsLatestOf (n + 1) rest most (later_end latest o.ends)
  latest_of_more n o at latest h = record {
    above = (let a = h.above in let b = later_first latest o.ends in omega (arith, a, b));
    each = each;
  }
    where
      each : (p e : ℕ) (x : Operation W) → p < n + 1 → slice_get rest p ≡ Some x → x.ends ≡ Some e → e ≤ later_end latest o.ends
      each p e x l px xe = elim (cases_lt p n) [
        | inl less ↦ let a = h.each p e x less px xe in let b = later_first latest o.ends in omega (arith, a, b)
        | inr le ↦
            let here : p ≡ n = omega (arith, l, le) in
            let same : x ≡ o = same_Some x o (sym px ∙ (ap (slice_get rest) here ∙ at)) in
            later_second latest o.ends e (ap (λ (z : Operation W). z.ends) (sym same) ∙ xe)
      ]

module _ {S W : Type 0} (held : List (Remainder S W)) (most : ℕ) where
  pub latest_none : IsLatest 0 held most most
  latest_none = record { above = omega arith; each = λ i p at one o l e f g. absurd (omega (arith, l)) }

  pub latest_more : (n : ℕ) (one : Remainder S W) → slice_get held n ≡ Some one → (latest latest' : ℕ) → IsLatest n held most latest →
      IsLatestOf (length one.rest.items) one.rest.items latest latest' → IsLatest (n + 1) held most latest'
  latest_more n one at latest latest' h s = record {
    above = (let a = h.above in let b = s.above in omega (arith, a, b));
    each = each;
  }
    where
      each : (i p e : ℕ) (x : Remainder S W) (o : Operation W) → i < n + 1 → slice_get held i ≡ Some x →
          slice_get x.rest.items p ≡ Some o → o.ends ≡ Some e → e ≤ latest'
      each i p e x o l ix po oe = elim (cases_lt i n) [
        | inl less ↦ let a = h.each i p e x o less ix po oe in let b = s.above in omega (arith, a, b)
        | inr le ↦
            let here : i ≡ n = omega (arith, l, le) in
            let same : x ≡ one = same_Some x one (sym ix ∙ (ap (slice_get held) here ∙ at)) in
            let po' : slice_get one.rest.items p ≡ Some o = subst (λ (z : Remainder S W). slice_get z.rest.items p ≡ Some o) same po in
            s.each p e o (slice_get_within one.rest.items p o po') po' oe
      ]

end_known : (m : ℕ) (ends : Option ℕ) → ((at : ℕ) → ends ≡ Some at → at ≤ m) → known_end m ends ≡ ends
end_known m None h = refl
end_known m (Some end) h =
    let l = h end refl in
    let b : nat_le end m ≡ true = grind (arith, nat_tests) in ap (λ z. cond z (Some end) None) b

module _ {W : Type 0} where
  -- from the last end on all is known
  pub all_known : (log : List (Operation W)) (m : ℕ) →
      ((i at : ℕ) (o : Operation W) → slice_get log i ≡ Some o → o.ends ≡ Some at → at ≤ m) → map (known m) log ≡ log
  all_known [] m h = refl
  all_known (o ∷ log) m h =
      let whole : Option ℕ → Operation W = λ e. record { starts = o.starts; ends = e; maybe = o.maybe; what = o.what } in
      let first : known m o ≡ o = ap whole (end_known m o.ends (λ at e. h 0 at o refl e)) in
      ap (λ z. z ∷ map (known m) log) first ∙ ap (λ zs. o ∷ zs) (all_known log m (λ i at x e f. h (suc i) at x e f))

  -- the last end of a log
  abbrev pub last_of : List (Operation W) → ℕ
  last_of [] = 0
  last_of (o ∷ log) = later_end (last_of log) o.ends

  pub last_is : (log : List (Operation W)) (i at : ℕ) (o : Operation W) → slice_get log i ≡ Some o → o.ends ≡ Some at → at ≤ last_of log
  last_is [] i at o e f = cc
  last_is (x ∷ log) zero at o e f =
      let same : x ≡ o = same_Some x o e in
      later_second (last_of log) x.ends at (ap (λ (z : Operation W). z.ends) same ∙ f)
  last_is (x ∷ log) (suc i) at o e f = let a = last_is log i at o e f in let b = later_first (last_of log) x.ends in omega (arith, a, b)
