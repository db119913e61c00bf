-- What a receipt told is the beginning of what its reader knows from then on.
use Rattle.std.proofs.Common.{◌≡◌, ℕ, zero, suc, ◌<◌, ◌≤◌, List, [], ◌∷◌, ◌++◌, length, slice_get, Some, sym, ◌∙◌, ap, subst, arith}
use Rattle.std.proofs.lemmas.Option.{same_Some, slice_get_within}
use Rattle.cell_contract.proofs.Heard.{heeds_one, no_older}
use Rattle.cell_contract.specs.Intervals.{known_as}
use Rattle.theorem_uses.proofs.Answered.{begins_it}
use Rattle.theorem_uses.specs.Cells.{AnswersNothingStale, AnswersTheWriter}

module _ {T : Type 0} where
  pub answers_the_writer : AnswersTheWriter T
  answers_the_writer opening written writes heard k old new before after answers reads answer at all h =
      let is = heeds_one opening answer heard k old new before after answers reads all h (known_as written writes) at in (
        no_older opening answer heard k old new before after answers reads all h written writes at,
        begins_it writes.begins new.times.begins is.first.begins,
        begins_it writes.ends new.times.ends is.first.ends,
      )

  -- of two records and more the one with a number from 2 on, where that stands in the list alone
  last_of_two : (opening x y answer : T) (more : List T) (n : ℕ) → 2 ≤ n → length (x ∷ y ∷ more) ≡ 2 →
      slice_get (opening ∷ x ∷ y ∷ more) n ≡ Some answer → answer ≡ y
  last_of_two opening x y answer more zero l long e = absurd (omega arith)
  last_of_two opening x y answer more (suc zero) l long e = absurd (omega arith)
  last_of_two opening x y answer more (suc (suc zero)) l long e = sym (same_Some y answer e)
  last_of_two opening x y answer more (suc (suc (suc n))) l long e =
      let inside = slice_get_within more n answer e in absurd (omega (arith, inside, long))

  after_the_first : (opening answer : T) (items : List T) (n : ℕ) → 2 ≤ n → slice_get (opening ∷ items) n ≡ Some answer →
      ((j : ℕ) → slice_get items j ≡ Some answer → j < 1) → ⊥
  after_the_first opening answer items zero l e only = absurd (omega arith)
  after_the_first opening answer items (suc n) l e only = let low = only n e in absurd (omega (arith, l, low))

  pub answers_nothing_stale : AnswersNothingStale T
  answers_nothing_stale opening x y writes heard k old new before after answers reads answer at all h =
      let is = heeds_one opening answer heard k old new before after answers reads all h (known_as (x ∷ y ∷ []) writes) at in
      let items : new.items ≡ x ∷ y ∷ is.first.items.0 = is.first.items.1 in (
        λ long. last_of_two opening x y answer is.first.items.0 h.number is.later (sym (ap length items) ∙ long)
            (subst (λ z. slice_get (opening ∷ z) h.number ≡ Some answer) items h.source),
        after_the_first opening answer new.items h.number is.later h.source,
      )
