-- The last write before an entry: one more entry changes it only where it is a write.
use Rattle.std.proofs.Common.{◌≡◌, ℕ, ◌+◌, false, List, take, Option, None, Some, IsSome, IsSomeAnd, arith, sym, ◌∙◌, ap, subst, inl, inr}
use Rattle.std.proofs.lemmas.Bool.{cases_lt}
use Rattle.history_explain.specs.Breaks.{IsLastWrite, IsReadingBreak}
use Rattle.history_core.specs.Orders.{is_write, is_write_at, latest, listed_at, ReadsRight}
use Rattle.history_explain.specs.inner.Searches.{IsWrongAt, write_after}
use Rattle.history_explain.specs.declared.breaks.Break.{Break}
use Rattle.history_explain.specs.declared.breaks.Break.TheVariants as break
use Rattle.history_core.specs.declared.history.Kind.{Kind}
use Rattle.history_core.specs.declared.history.Kind.TheVariants.{Write, Read, Refused}
use Rattle.history_core.specs.declared.history.Op.{Op}
use Rattle.history_check.proofs.Forwards.{ReadsUpTo}
use Rattle.history_explain.proofs.Fronts.{reads_front}
use Rattle.history_core.proofs.Listed.{some_and_from}

module _ {R : Type 0} where
  not_write : (ops : List (Op R)) (order : List ℕ) (n : ℕ) (w : Option ℕ) → is_write_at (listed_at ops order n) ≡ false →
      IsLastWrite ops order n w → IsLastWrite ops order (n + 1) w
  not_write ops order n None at h = λ i l. elim (cases_lt i n) [
    | inl lt ↦ h i lt
    | inr ge ↦
        let e : i ≡ n = omega arith in
        ap (λ k. is_write_at (listed_at ops order k)) e ∙ at
  ]
  not_write ops order n (Some w) at h = (
    omega (arith, h.0),
    h.1,
    λ i wi l. elim (cases_lt i n) [
      | inl lt ↦ h.2 i wi lt
      | inr ge ↦
          let e : i ≡ n = omega arith in
          ap (λ k. is_write_at (listed_at ops order k)) e ∙ at
    ],
  )

  by_kind : (ops : List (Op R)) (order : List ℕ) (n : ℕ) (w : Option ℕ) (kind : Kind) →
      is_write_at (listed_at ops order n) ≡ is_write kind → IsLastWrite ops order n w → IsLastWrite ops order (n + 1) (write_after kind n w)
  by_kind ops order n w Write at h = (omega arith, at, λ i wi l. absurd (omega arith))
  by_kind ops order n w Read at h = not_write ops order n w at h
  by_kind ops order n w Refused at h = not_write ops order n w at h

  pub write_more : (ops : List (Op R)) (order : List ℕ) (n : ℕ) (w : Option ℕ) (o : Op R) → listed_at ops order n ≡ Some o →
      IsLastWrite ops order n w → IsLastWrite ops order (n + 1) (write_after o.kind n w)
  write_more ops order n w o at h = by_kind ops order n w o.kind (ap is_write_at at) h

  pub reading_at : (Same : R → R → Type 0) (opening : R) (ops : List (Op R)) (order : List ℕ) (n : ℕ) (o : Op R) (r : R)
      (w : Option ℕ) (b : Break)
      → listed_at ops order n ≡ Some o → latest opening ops (take n order) ≡ Some r → ReadsUpTo Same opening ops order n →
      IsLastWrite ops order n w
      → IsWrongAt Same r w n o.kind o.item b → IsReadingBreak Same opening ops order b
  reading_at Same opening ops order n o r w (break.NoItem e) at held reads last wrong =
      let P : ℕ → Type 0 = λ k. IsReadingBreak Same opening ops order (break.NoItem k) in
      subst P (sym wrong.0) (record {
        none = some_and_from (λ z. z.item ≡ None) (listed_at ops order n) o at wrong.1;
        before = reads_front Same opening ops order n reads;
      })
  reading_at Same opening ops order n o r w (break.Reading e v) at held reads last wrong =
      let P : ℕ → Type 0 = λ k. IsReadingBreak Same opening ops order (break.Reading k v) in
      let Q : Option R → Type 0 = λ z. ReadsRight Same o.kind o.item z in
      let not_right : ReadsRight Same o.kind o.item (latest opening ops (take n order)) → ⊥ = λ right. wrong.3 (subst Q held right) in
      let L : Option ℕ → Type 0 = λ z. IsLastWrite ops order n z in
      subst P (sym wrong.0) (record {
        wrong = some_and_from (λ z. IsSomeAnd z.item (λ x. ReadsRight Same z.kind z.item (latest opening ops (take n order)) → ⊥))
            (listed_at ops order n) o at (has o.item wrong.2 not_right);
        last = subst L (sym wrong.1) last;
        before = reads_front Same opening ops order n reads;
      })
    where
      has : {N : Type 0} (item : Option R) → IsSome item → N → IsSomeAnd item (λ x. N)
      has (Some x) s not = not
      has None s not = cc
  reading_at Same opening ops order n o r w (break.NoPlace e) at held reads last wrong = absurd wrong
  reading_at Same opening ops order n o r w (break.Times p t) at held reads last wrong = absurd wrong
  reading_at Same opening ops order n o r w (break.Precedence e f) at held reads last wrong = absurd wrong
  reading_at Same opening ops order n o r w (break.Limit e f) at held reads last wrong = absurd wrong
