-- What `parse` reads of a word is its budget, if it is in the range; what it doesn't read is none.
use Rattle.std.proofs.Common.{◌≡◌, ◌<◌, ◌≤◌, ◌^◌, ℕ, Bool, true, false, List, [], ◌∷◌, Some, None, refl, sym, arith}
use Rattle.std.proofs.lemmas.Bool.{and_parts, ltb-true, ltb-false, lt-ltb, lt-leb}
use Rattle.std.specs.Prelude.{◌&&◌, if◌then◌else◌, length, nat_le, nat_lt}
use Rattle.std.specs.Char.{digit_value}
use Rattle.std.specs.List.{list_all}
use Rattle.std.specs.Str.Parse.{AllDigits, IsNumeral, digits_value, without_leading_plus}
use Rattle.program_runs.specs.Shows.{budget_of, in_range, is_numeral, most_budget}

digits_tested : (ds : List ℕ) → AllDigits 10 ds → list_all (λ d. nat_lt (digit_value d) 10) ds ≡ true
digits_tested [] all = refl
digits_tested (d ∷ ds) all = rw (lt-ltb (digit_value d) 10 all.0) (digits_tested ds all.1)

numeral_tested : (ds : List ℕ) → IsNumeral 10 ds → is_numeral ds ≡ true
numeral_tested ds is = rw (lt-ltb 0 (length ds) is.0, digits_tested ds is.1) refl

tested_digits : (ds : List ℕ) → list_all (λ d. nat_lt (digit_value d) 10) ds ≡ true → AllDigits 10 ds
tested_digits [] test = tt
tested_digits (d ∷ ds) test = let parts = and_parts _ _ test in (ltb-true _ _ parts.0, tested_digits ds parts.1)

tested_numeral : (ds : List ℕ) → is_numeral ds ≡ true → IsNumeral 10 ds
tested_numeral ds test = let parts = and_parts _ _ test in (ltb-true _ _ parts.0, tested_digits ds parts.1)

-- a number that was read
pub named : (word : List ℕ) (number : ℕ) → IsNumeral 10 (without_leading_plus word) →
    number ≡ digits_value 10 (without_leading_plus word) → in_range number ≡ budget_of word
named word number is same = rw (numeral_tested (without_leading_plus word) is, same) refl

too_great : (number : ℕ) → most_budget < number → in_range number ≡ None
too_great number great = by_tests (nat_le 1 number) (nat_le number most_budget) (lt-leb number most_budget great)
  where
    by_tests : (a b : Bool) → b ≡ false → (if a && b then Some number else None) ≡ None
    by_tests true false e = refl
    by_tests false false e = refl
    by_tests a true e = absurd (cc)

far_too_great : (number : ℕ) (b : Bool) → nat_lt number (2 ^ 64) ≡ b → (number < 2 ^ 64 → ⊥) → most_budget < number
far_too_great number true test not_less = absurd (not_less (ltb-true number (2 ^ 64) test))
far_too_great number false test not_less =
    let least : 18446744073709551616 ≤ number = ltb-false number (2 ^ 64) test in omega (arith, least)

-- a word that wasn't read
pub unnamed : (word : List ℕ) →
    (IsNumeral 10 (without_leading_plus word) × (digits_value 10 (without_leading_plus word) < 2 ^ 64) → ⊥) → None ≡ budget_of word
unnamed word unread = by_test (is_numeral (without_leading_plus word)) refl
  where
    by_test : (b : Bool) → is_numeral (without_leading_plus word) ≡ b
        → None ≡ (if b then in_range (digits_value 10 (without_leading_plus word)) else None)
    by_test false test = refl
    by_test true test = sym (too_great (digits_value 10 (without_leading_plus word))
        (far_too_great (digits_value 10 (without_leading_plus word)) _ refl (λ less. unread (tested_numeral _ test, less))))
