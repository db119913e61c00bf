-- One more operation, and no record that was written before; or the first fault.
use Rattle.std.proofs.Common.{◌≡◌, ◌≢◌, ℕ, ◌+◌, ◌≤◌, Bool, true, false, List, length, map, refl, sym, ◌∙◌, ap, subst, arith}
use Rattle.std.proofs.Common.{inl, inr}
use Rattle.std.proofs.Common.{slice_get, Option, None, Some, nat_eq}
use Rattle.std.specs.Prelude.{if◌then◌else◌}
use Rattle.std.specs.Option.{option_and_then, option_map}
use Rattle.std.proofs.lemmas.Bool.Decides.{nat_tests}
use Rattle.std.proofs.lemmas.Option.{none-some, option_and_then_some, same_Some, slice_get_within}
use Rattle.history_core.specs.declared.history.Op.{Op}
use Rattle.history_core.specs.declared.reason.SearchError.{SearchError}
use Rattle.history_core.specs.declared.reason.SearchError.TheVariants.{WritesOpening, WritesTwice}
use Rattle.history_core.specs.Orders.{is_write}
use Rattle.history_core.specs.Reasons.{IsOfOpening}
use Rattle.history_core.specs.Searches.{IsGroupFault, WritesOnce}
use Rattle.history_core.proofs.Listed.{some_and_from, some_and_of}
use Rattle.history_thinning.specs.Thinnings.{Equal}
use Rattle.history_coherence.specs.Answers.{AreWrittenOnce}
use Rattle.history_coherence.specs.inner.Keys.{ArePrevious, IsPrevious, number_at, written_record}
use Rattle.history_coherence.specs.inner.Writes.{fault_at, fault_by}
use Rattle.history_coherence.proofs.Edges.{mapped_some, number_within}
use Rattle.history_coherence.proofs.Sound.{one_from, one_of, opening_from, opening_of}
use Rattle.history_coherence.proofs.Tabled.{number_map, number_of, written_has, written_is}
use Rattle.history_coherence.proofs.Tables.{below_or}

module _ (log : List (Op ℕ)) (previous : List (Option ℕ))
    (before : ArePrevious (map written_record log) (length (map written_record log)) previous) where
  record_at : (p x : ℕ) (o : Op ℕ) → slice_get log p ≡ Some o → is_write o.kind ≡ true → o.item ≡ Some x →
      number_at (map written_record log) p ≡ Some x
  record_at p x o e t i = number_map written_record log p o e ∙ written_is o t ∙ i

  previous_at : (p x : ℕ) → number_at (map written_record log) p ≡ Some x → IsPrevious (map written_record log) p x (number_at previous p)
  previous_at p x e = before.each p x (number_within (map written_record log) p x e) e

  -- no fault, and so no opening and no record that was written before
  no_fault : (p x : ℕ) → number_at (map written_record log) p ≡ Some x → fault_at (map written_record log) previous p ≡ None →
      (x ≢ 0) × (number_at previous p ≡ None)
  no_fault p x e h = by (nat_eq x 0) (number_at previous p) refl refl
      (ap (option_and_then (λ y. fault_by y (number_at previous p) p)) (sym e) ∙ h)
    where
      by : (b : Bool) (found : Option ℕ) → nat_eq x 0 ≡ b → number_at previous p ≡ found →
          fault_by x (number_at previous p) p ≡ None → (x ≢ 0) × (number_at previous p ≡ None)
      by true found t f k =
          let P : Bool → Type 0 = λ z.
          (if z then Some (WritesOpening p) else option_map (λ first. WritesTwice first p) (number_at previous p)) ≡ None in
          absurd (none-some (WritesOpening p) (sym (subst P t k)))
      by false None t f k = (grind (arith, nat_tests), f)
      by false (Some r) t f k =
          let P : Bool → Option ℕ → Type 0 = λ z o.
          (if z then Some (WritesOpening p) else option_map (λ first. WritesTwice first p) o) ≡ None in
          absurd (none-some (WritesTwice r p) (sym (subst (λ o. P false o) f (subst (λ z. P z (number_at previous p)) t k))))

  pub once_more : (n : ℕ) → fault_at (map written_record log) previous n ≡ None → WritesOnce Equal 0 log n → WritesOnce Equal 0 log (n + 1)
  once_more n h once = record {
    fresh = λ p l bad. elim (below_or p n l) [
      | inl lt ↦ once.fresh p lt bad
      | inr s ↦
          let x = some_and_of (λ (a : Op ℕ). (is_write a.kind ≡ true) × IsOfOpening Equal 0 a) (slice_get log p) bad in
          let at = record_at n 0 x.0 (ap (slice_get log) (sym s) ∙ x.1) x.2.0 (opening_of x.0 x.2.1) in
          (no_fault n 0 at h).0 refl
    ];
    once = λ p q l bad. elim (below_or q n l) [
      | inl lt ↦ once.once p q lt bad
      | inr s ↦
          let c = one_of bad.later bad.earlier bad.one in
          let at = record_at n c.0 bad.later (ap (slice_get log) (sym s) ∙ bad.second_at) bad.second_writes c.1 in
          let other = record_at p c.0 bad.earlier bad.first_at bad.first_writes c.2 in
          let none = (no_fault n c.0 at h).1 in
          let P : Option ℕ → Type 0 = λ o. IsPrevious (map written_record log) n c.0 o in
          let less = bad.less in
          subst P none (previous_at n c.0 at) p (omega arith) other
    ];
  }

  pub fault_is : (n : ℕ) (fault : SearchError) → fault_at (map written_record log) previous n ≡ Some fault → WritesOnce Equal 0 log n →
      IsGroupFault Equal 0 log fault
  fault_is n fault h once =
      option_and_then_some (λ y. fault_by y (number_at previous n) n) (number_at (map written_record log) n) fault h (λ x e k.
      by x e (nat_eq x 0) refl k)
    where
      by : (x : ℕ) → number_at (map written_record log) n ≡ Some x → (b : Bool) → nat_eq x 0 ≡ b →
          (if b then Some (WritesOpening n) else option_map (λ first. WritesTwice first n) (number_at previous n)) ≡ Some fault →
          IsGroupFault Equal 0 log fault
      by x e true t k =
          let o = number_of written_record log n x e in
          let w = written_has o.0 x o.2 in
          let z : x ≡ 0 = grind (arith, nat_tests) in
          let P : SearchError → Type 0 = λ f. IsGroupFault Equal 0 log f in
          subst P (same_Some (WritesOpening n) fault k) (
            some_and_from (λ (a : Op ℕ). (is_write a.kind ≡ true) × IsOfOpening Equal 0 a) (slice_get log n) o.0 o.1
                (w.0, opening_from o.0 (w.1 ∙ ap Some z)),
            once,
          )
      by x e false t k =
          let r = mapped_some (λ first. WritesTwice first n) (number_at previous n) fault k in
          let Q : Option ℕ → Type 0 = λ o. IsPrevious (map written_record log) n x o in
          let p = subst Q r.1 (previous_at n x e) in
          let a = number_of written_record log r.0 x p.1 in
          let o = number_of written_record log n x e in
          let v = written_has a.0 x a.2 in
          let w = written_has o.0 x o.2 in
          let P : SearchError → Type 0 = λ f. IsGroupFault Equal 0 log f in
          subst P r.2 (
            record {
              earlier = a.0;
              later = o.0;
              first_at = a.1;
              second_at = o.1;
              first_writes = v.0;
              second_writes = w.0;
              one = one_from o.0 a.0 x w.1 v.1;
              less = p.0;
            },
            once,
          )

pub once_none : (log : List (Op ℕ)) → WritesOnce Equal 0 log 0
once_none log = record { fresh = λ p l bad. absurd (omega arith); once = λ p q l bad. absurd (omega arith) }

pub once_all : (log : List (Op ℕ)) (n : ℕ) → length log ≤ n → WritesOnce Equal 0 log n → AreWrittenOnce log
once_all log n le h k = record {
  fresh = λ p l bad.
      let x = some_and_of (λ (a : Op ℕ). (is_write a.kind ≡ true) × IsOfOpening Equal 0 a) (slice_get log p) bad in
      h.fresh p (omega (arith, slice_get_within log p x.0 x.1)) bad;
  once = λ p q l bad. h.once p q (omega (arith, slice_get_within log q bad.later bad.second_at)) bad;
}
