-- The greatest record that a process holds when its term has ended is the greatest that an operation chose: each process holds the
-- last that it chose, and what one process chose never falls.
use Rattle.std.proofs.Common.{◌≡◌, ℕ, zero, suc, ◌+◌, ◌-◌, ◌*◌, ◌<◌, List, [], ◌∷◌, length, refl, sym, ◌∙◌, ap, subst, arith, inl, inr}
use Rattle.std.proofs.Common.{⊎_elim}
use Rattle.std.specs.Prelude.{slice_get, Option, Some}
use Rattle.std.proofs.lemmas.Option.{none-some, same_Some}
use Rattle.history_core.specs.declared.history.Op.{Op}
use Rattle.history_core.specs.Schedules.{Span, steps_of}
use Rattle.four_slot_core.specs.Traces.{source_record}
use Rattle.matrix_core.specs.declared.stamp.Stamp.{Stamp}
use Rattle.matrix_core.specs.declared.stamp.Stamped.{Stamped}
use Rattle.matrix_core.specs.declared.progress.Progress.{Progress}
use Rattle.matrix_core.specs.Gathering.{record_of}
use Rattle.matrix_core.specs.Choices.{Choice, HasChoices, IsAtMost, IsEarlier, IsFrom, IsGreatestChoice, IsIn}
use Rattle.matrix_core.specs.Lines.{first_record}
use Rattle.matrix_core.specs.inner.Operations.{greatest_own}
use Rattle.matrix_core.specs.Stamps.{greater}
use Rattle.matrix_core.proofs.choices.Gathered.{in_mine, mine_in, mine_rise}
use Rattle.matrix_core.proofs.choices.ByAccesses.{HasRecords}
use Rattle.matrix_core.proofs.choices.Stamps.{at_most_refl, at_most_trans, greater_first, greater_is, greater_second}
use Rattle.matrix_core.proofs.choices.Made.{IsMade}
use Rattle.matrix_core.proofs.lists.Elements.{get_exists}

module _ {R : Type 0} where
  -- the greatest own record is one of them, and none of them is greater
  greatest_least : (least : Stamped R) (lines : List (Progress R)) → IsAtMost least.stamp (greatest_own least lines).stamp
  greatest_least least [] = at_most_refl least.stamp
  greatest_least least (line ∷ lines) = at_most_trans least.stamp (greater least line.own).stamp
      (greatest_own (greater least line.own) lines).stamp (greater_first least line.own) (greatest_least (greater least line.own) lines)

  pub greatest_each : (least : Stamped R) (lines : List (Progress R)) (i : ℕ) (line : Progress R) → slice_get lines i ≡ Some line →
      IsAtMost line.own.stamp (greatest_own least lines).stamp
  greatest_each least [] i line h = absurd (none-some line h)
  greatest_each least (l ∷ lines) zero line h =
      let e : l ≡ line = same_Some l line h in
      subst (λ (z : Progress R). IsAtMost z.own.stamp (greatest_own (greater least l.own) lines).stamp) e
      (at_most_trans l.own.stamp (greater least l.own).stamp (greatest_own (greater least l.own) lines).stamp (greater_second least l.own)
      (greatest_least (greater least l.own) lines))
  greatest_each least (l ∷ lines) (suc i) line h = greatest_each (greater least l.own) lines i line h

  pub greatest_from : (opening : R) (choices : List (Choice R)) (least : Stamped R) (lines : List (Progress R)) →
      IsFrom opening choices least.stamp least.item
      → ((i : ℕ) (line : Progress R) → slice_get lines i ≡ Some line → IsFrom opening choices line.own.stamp line.own.item)
      → IsFrom opening choices (greatest_own least lines).stamp (greatest_own least lines).item
  greatest_from opening choices least [] f each = f
  greatest_from opening choices least (line ∷ lines) f each = greatest_from opening choices (greater least line.own) lines
      (⊎_elim
      (λ (e : greater least line.own ≡ least). subst (λ (x : Stamped R). IsFrom opening choices x.stamp x.item) (sym e) f)
      (λ (e : greater least line.own ≡ line.own).
      subst (λ (x : Stamped R). IsFrom opening choices x.stamp x.item) (sym e) (each 0 line refl))
      (greater_is least line.own))
      (λ i l h. each (suc i) l h)

module _ {R : Type 0} (at width : ℕ) (span : Span R) (opening : R) (ops : List (Op R)) (stamps : List (Option Stamp))
    (chosen : ℕ → ℕ → Stamped R)
    (choices : List (Choice R)) (has : HasChoices opening span.limit ops stamps choices) (records : HasRecords at span width chosen choices)
    (lines : List (Progress R)) (long : length lines ≡ length span.plans)
    (holds : (i : ℕ) (line : Progress R) → slice_get lines i ≡ Some line
    → (count : ℕ) × IsMade span.accesses ((length span.plans - 2) * width + (width - 1)) (steps_of i span.steps) count
    × (line.own ≡ source_record (first_record opening) (chosen i) count)) where
  own_from : (i : ℕ) (line : Progress R) → slice_get lines i ≡ Some line → IsFrom opening choices line.own.stamp line.own.item
  own_from i line h = let x = holds i line h in by_count x.0 x.1 x.2
    where
      by_count : (count : ℕ) → IsMade span.accesses ((length span.plans - 2) * width + (width - 1)) (steps_of i span.steps) count →
          line.own ≡ source_record (first_record opening) (chosen i) count → IsFrom opening choices line.own.stamp line.own.item
      by_count zero made e = inl (ap (λ (x : Stamped R). x.stamp) e, ap (λ (x : Stamped R). x.item) e)
      by_count (suc k) made e =
          let c = records.all i k (made.inside k (omega arith)) in
          let is : record_of c.0 ≡ line.own = (records.each i k c.0 c.1).0 ∙ sym e in
          inr (c.0, (mine_in i choices k c.0 c.1).0, ap (λ (x : Stamped R). x.stamp) is, ap (λ (x : Stamped R). x.item) is)

  own_above : (c : Choice R) (line : Progress R) → IsIn c choices → slice_get lines c.who ≡ Some line → IsAtMost c.stamp line.own.stamp
  own_above c line mem h = let x = holds c.who line h in by_count x.0 x.1 x.2
    where
      by_count : (count : ℕ) → IsMade span.accesses ((length span.plans - 2) * width + (width - 1)) (steps_of c.who span.steps) count →
          line.own ≡ source_record (first_record opening) (chosen c.who) count → IsAtMost c.stamp line.own.stamp
      by_count zero made e =
          let k = in_mine choices c mem in
          let l : k.0 < 0 = made.all k.0 (records.each c.who k.0 c k.1).1 in
          absurd (omega arith)
      by_count (suc last) made e =
          let k = in_mine choices c mem in
          let l : k.0 < suc last = made.all k.0 (records.each c.who k.0 c k.1).1 in
          let d = records.all c.who last (made.inside last (omega arith)) in
          let up : IsAtMost c.stamp d.0.stamp =
          mine_rise (IsEarlier ops) opening span.limit (length span.plans) c.who choices has.law k.0 last c d.0 k.1 d.1 (omega arith) in
          subst (λ (x : Stamped R). IsAtMost c.stamp x.stamp) ((records.each c.who last d.0 d.1).0 ∙ sym e) up

  pub greatest_chosen : IsGreatestChoice opening choices (greatest_own (first_record opening) lines).stamp
      (greatest_own (first_record opening) lines).item
  greatest_chosen = (
    greatest_from opening choices (first_record opening) lines (inl (refl, refl)) own_from,
    λ c mem.
        let lw : c.who < length span.plans = records.inside c mem in
        let line = get_exists lines c.who (omega arith) in
        at_most_trans c.stamp line.0.own.stamp (greatest_own (first_record opening) lines).stamp (own_above c line.0 mem line.1)
        (greatest_each (first_record opening) lines c.who line.0 line.1),
  )
