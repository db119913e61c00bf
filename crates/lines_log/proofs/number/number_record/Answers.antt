-- A record that got its number is of those that were met, or one more, and those stay where they stand.
use Rattle.std.proofs.Common.{◌≡◌, ◌∙◌, inl, inr, ℕ, List, Option, Some, slice_get, subst, sym, ap}
use Rattle.std.specs.Prelude.{option_map, string_bytes}
use Rattle.history_core.proofs.Places.{get_stays}
use Rattle.kept_lines.specs.Numberings.{MeetsRecord}
use Rattle.kept_lines.specs.Numbered.{GaveRecord}
use Rattle.kept_lines.specs.declared.numbers.RecordNumbers.{RecordNumbers}
use Rattle.lines_log.specs.inner.Numbers.{Grow, IsRecordNow}
use Rattle.lines_log.proofs.number.number_record.Goals as goal

grows : (records after : List (List ℕ)) (text : List ℕ) → MeetsRecord records text after → Grow records after
grows records after text (inl same) n t at = ap (λ l. slice_get l n) same ∙ at
grows records after text (inr more) n t at = ap (λ l. slice_get l n) more ∙ get_stays records t text n at

numbered : (records : List (List ℕ)) (said : Option (List ℕ)) (text bytes : List ℕ) (n : ℕ) (numbers : RecordNumbers)
    → said ≡ Some text → bytes ≡ text → GaveRecord records bytes n numbers → IsRecordNow records said numbers (Some n)
numbered records said text bytes n numbers is same gave =
    subst (λ z. IsRecordNow records z numbers (Some n)) (ap Some same ∙ sym is) (record {
      after = gave.after;
      grows = grows records gave.after bytes gave.meets;
      numbered = gave.numbered;
      is = gave.at;
    })

pub returns-in_ok-number-in-Some : goal.returns-in_ok-number-in-Some
returns-in_ok-number-in-Some c = λ records is.
    numbered records _ _ _ _ _ (ap (option_map string_bytes) c.in-Some.is) c.as_bytes.ensures.value
    (c.in_ok-number-in-Some.ensures records is)
