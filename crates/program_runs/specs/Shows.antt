-- What the command `order` is asked for, and the number that a word names as its budget (this project's own).
use Rattle.std.specs.Prelude.{◌&&◌, ℕ, Bool, false, List, length, nat_le, nat_lt, Option, Some, None, if◌then◌else◌}
use Rattle.std.specs.Char.{digit_value}
use Rattle.std.specs.List.{list_all}
use Rattle.std.specs.Str.Parse.{digits_value, without_leading_plus}
use Rattle.program_runs.specs.declared.show.Show.{Show}

-- how many configurations a sweep may hold if nothing is said of them, and the most that may be said
abbrev pub usual_budget : ℕ
usual_budget = 10000

abbrev pub most_budget : ℕ
most_budget = 1000000000

-- what is asked for without words
abbrev pub plain : Show
plain = record { order = false; small = false; strict = false; budget = usual_budget }

abbrev pub is_numeral : List ℕ → Bool
is_numeral digits = nat_lt 0 (length digits) && list_all (λ d. nat_lt (digit_value d) 10) digits

-- a number from 1 to the most
abbrev pub in_range : ℕ → Option ℕ
in_range number = if nat_le 1 number && nat_le number most_budget then Some number else None

-- the budget that a word names: a number in digits, behind a plus or not
abbrev pub budget_of : List ℕ → Option ℕ
budget_of word =
    let digits : List ℕ = without_leading_plus word in
    if is_numeral digits then in_range (digits_value 10 digits) else None
