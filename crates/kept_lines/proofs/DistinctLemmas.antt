-- Records of which none stands twice.
use Rattle.std.proofs.Common.{◌≡◌, ◌∙◌, ℕ, List, [], ◌∷◌, ◌++◌, ap, inl, inr, slice_get, Some, sym}
use Rattle.std.proofs.lemmas.Option.{none-some}
use Rattle.history_core.proofs.Places.{get_pushed_cases}
use Rattle.kept_lines.specs.Numberings.{AreDistinct}

none_distinct : AreDistinct []
none_distinct = λ text m n at_m at_n. absurd (none-some text at_m)

-- one more that isn't among them
pub distinct_more : (records : List (List ℕ)) (text : List ℕ) → AreDistinct records →
    ((n : ℕ) → slice_get records n ≡ Some text → ⊥) → AreDistinct (records ++ text ∷ [])
distinct_more records text distinct new = λ t m n at_m at_n. elim (get_pushed_cases records text m t at_m) [
  | inl old_m ↦ elim (get_pushed_cases records text n t at_n) [
    | inl old_n ↦ distinct t m n old_m old_n
    | inr is ↦ absurd (new m (old_m ∙ ap Some (sym is.1)))
  ]
  | inr at ↦ elim (get_pushed_cases records text n t at_n) [
    | inl old_n ↦ absurd (new n (old_n ∙ ap Some (sym at.1)))
    | inr is ↦ at.0 ∙ sym is.0
  ]
]

pub one_distinct : (text : List ℕ) → AreDistinct (text ∷ [])
one_distinct text = distinct_more [] text none_distinct (λ n at. none-some text at)
