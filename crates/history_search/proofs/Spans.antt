-- The earliest end and the latest beginning of a group, whichever way its span is found.
use Rattle.std.proofs.Common.{◌≡◌, ℕ, zero, suc, ◌<◌, ◌≤◌, min, true, List, length, refl, sym, ◌∙◌, ap, arith}
use Rattle.std.proofs.Common.{◌⊎◌, inl, inr, slice_get, Option, None, Some}
use Rattle.std.proofs.lemmas.Bool.{cases_lt}
use Rattle.std.proofs.lemmas.Option.{slice_get_within, same_Some, slice_get_cases}
use Rattle.history_core.specs.declared.history.Op.{Op}
use Rattle.history_core.specs.declared.history.Kind.TheVariants.{Refused}
use Rattle.history_search.specs.declared.span.Moment.{Moment}
use Rattle.history_search.specs.declared.span.Span.{Span}
use Rattle.history_search.specs.inner.Groups.{AreGroups, AreSpans, HasGroup, IsSpan, Member}
use Rattle.history_search.specs.inner.Ranks.{asks_in, begin_in, end_in, first_of, moment_at, moment_or}
use Rattle.history_core.proofs.Atomic.{IsSearched, some_of}
use Rattle.history_search.proofs.Groups.{has}

-- of two groups, where something in a has to stand before something in b, and nothing in b before something in a
pub goes_first : (fa fb : Option ℕ) (sa sb m : ℕ) → fa ≡ Some m → m < sb → ((n : ℕ) → fb ≡ Some n → sa ≤ n) →
    (first_of fa sa < first_of fb sb) ⊎ ((first_of fa sa ≡ first_of fb sb) × (sa < sb))
goes_first None fb sa sb m e l h = cc
goes_first (Some a) None sa sb m e l h = let s : a ≡ m = same_Some a m e in inl (omega arith)
goes_first (Some a) (Some b) sa sb m e l h =
    let s : a ≡ m = same_Some a m e in
    let k : sa ≤ b = h b refl in
    elim (cases_lt (min a sa) (min b sb)) [ inl lt ↦ inl lt | inr le ↦ inr (omega arith, omega arith) ]

module _ {R : Type 0} (Same : R → R → Type 0) (opening : R) (ops : List (Op R))
    (groups : List (Option ℕ)) (known : IsSearched Same opening ops)
    (are : AreGroups Same opening ops groups) (spans : List Span) (spanned : AreSpans ops groups (length ops) spans) where
  within : (g : ℕ) (o : Op R) → HasGroup Same opening ops g o → g < length spans
  within zero o h = omega (arith, spanned.long)
  within (suc w) o h = omega (arith, spanned.long, slice_get_within ops w h.0 h.1)

  pub span_of : (p g : ℕ) (o : Op R) → Member ops groups p o g →
      (span : Span) × (slice_get spans g ≡ Some span) × IsSpan ops groups (length ops) g span
  span_of p g o m =
      let l = within g o (has Same opening ops groups known are p g o m).1 in
      elim (slice_get_cases spans g).1 [ inl x ↦ (x.0, x.2, spanned.each g x.0 x.2) | inr x ↦ absurd (omega (arith, x.0)) ]

  pub least_end : (p g end : ℕ) (o : Op R) → Member ops groups p o g → o.ends ≡ Some end →
      (m : ℕ) × (end_in (slice_get spans g) ≡ Some m) × (m ≤ end)
  least_end p g end o m e =
      let s = span_of p g o m in
      let x = s.2.least p end o (slice_get_within ops p o m.0) m e in
      (x.0.at, ap end_in s.1 ∙ ap moment_at x.1, x.2)

  pub most_begin : (p g : ℕ) (o : Op R) → Member ops groups p o g → o.starts ≤ begin_in (slice_get spans g)
  most_begin p g o m =
      let s = span_of p g o m in
      let x = s.2.most p o (slice_get_within ops p o m.0) m in
      let e : begin_in (slice_get spans g) ≡ x.0.at = ap begin_in s.1 ∙ ap moment_or x.1 in
      let l : o.starts ≤ x.0.at = x.2 in
      omega arith

  -- a member that begins last
  pub last_member : (p g : ℕ) (o : Op R) → Member ops groups p o g →
      (q : ℕ) × (b : Op R) × Member ops groups q b g × (b.starts ≡ begin_in (slice_get spans g))
  last_member p g o m =
      let s = span_of p g o m in
      let x = s.2.most p o (slice_get_within ops p o m.0) m in
      let y = s.2.beginner x.0 x.1 in
      let e : begin_in (slice_get spans g) ≡ x.0.at = ap begin_in s.1 ∙ ap moment_or x.1 in
      (x.0.place, y.0, y.1, y.2 ∙ sym e)

  end_by : (g m : ℕ) (found : Option Span) → slice_get spans g ≡ found → end_in found ≡ Some m →
      (p : ℕ) × (o : Op R) × Member ops groups p o g × (o.ends ≡ Some m)
  end_by g m None e h = cc
  end_by g m (Some span) e h = moment span.ends refl h
    where
      moment : (ends : Option Moment) → span.ends ≡ ends → moment_at ends ≡ Some m →
          (p : ℕ) × (o : Op R) × Member ops groups p o g × (o.ends ≡ Some m)
      moment None s k = cc
      moment (Some x) s k = let y = (spanned.each g span e).ender x s in (x.place, y.0, y.1, y.2 ∙ k)

  -- a member that ends first
  pub first_member : (g m : ℕ) → end_in (slice_get spans g) ≡ Some m → (p : ℕ) × (o : Op R) × Member ops groups p o g × (o.ends ≡ Some m)
  first_member g m h = end_by g m (slice_get spans g) refl h

  -- whether a write of a group was refused
  pub group_asks : (p g : ℕ) (o : Op R) → Member ops groups p o g → o.kind ≡ Refused → asks_in (slice_get spans g) ≡ true
  group_asks p g o m k =
      let s = span_of p g o m in
      ap asks_in s.1 ∙ s.2.asks p o (slice_get_within ops p o m.0) m k

  asker_by : (g : ℕ) (found : Option Span) → slice_get spans g ≡ found → asks_in found ≡ true →
      (p : ℕ) × (o : Op R) × Member ops groups p o g × (o.kind ≡ Refused)
  asker_by g None e h = cc
  asker_by g (Some span) e h =
      let x = some_of span.refused h in
      let y = (spanned.each g span e).asker x.0 x.1 in
      (x.0, y.0, y.1, y.2)

  pub asking_member : (g : ℕ) → asks_in (slice_get spans g) ≡ true → (p : ℕ) × (o : Op R) × Member ops groups p o g × (o.kind ≡ Refused)
  asking_member g h = asker_by g (slice_get spans g) refl h
