-- The plans and steps of a matrix, and its terms (this project's own).
use Rattle.std.specs.Prelude.{ℕ, List, length, Bool, true, nat_le, nat_lt, ◌&&◌, sum_by}
use Rattle.std.specs.List.{list_all}
use Rattle.history_core.specs.Band.{fits}
use Rattle.history_core.specs.declared.band.Band.{Band}
use Rattle.history_core.specs.declared.wish.Wish.{Wish}
use Rattle.history_core.specs.declared.wish.Wish.TheVariants.{Write, Read}
use Rattle.matrix_core.specs.declared.schedule.MatrixTerm.{MatrixTerm}
use Rattle.history_fields.specs.Fields.{limit_in_range}
use Rattle.read_document.specs.Ranges.{count_in_range}
use Rattle.read_schedule.specs.Ranges.{steps_in_range}

-- the operations that all plans ask for
abbrev pub members : List (List (Wish Band)) → ℕ
members plans = sum_by (λ plan. length plan) plans

-- a plan for each of 2 to 16 processes
abbrev pub plans_in_range : List (List (Wish Band)) → Bool
plans_in_range plans = nat_le 2 (length plans) && nat_le (length plans) 16 && count_in_range (members plans)

-- each step is of one of the processes
abbrev pub are_of : ℕ → List ℕ → Bool
are_of processes steps = steps_in_range (length steps) && list_all (λ step. nat_lt step processes) steps

-- each record that is to be written fits
abbrev pub wish_fits : Wish Band → Bool
wish_fits (Write record') = fits record'
wish_fits Read = true

abbrev pub plan_fits : List (Wish Band) → Bool
plan_fits plan = list_all wish_fits plan

abbrev pub plans_fit : List (List (Wish Band)) → Bool
plans_fit plans = list_all plan_fits plans

-- ---- terms

abbrev pub term_in_range : MatrixTerm Band → Bool
term_in_range term = limit_in_range term.limit && plans_in_range term.plans && are_of (length term.plans) term.steps

-- 1 to 16 terms, and over all of them no more members and steps than one may have
abbrev pub terms_in_range : List (MatrixTerm Band) → Bool
terms_in_range terms = nat_le 1 (length terms) && nat_le (length terms) 16 && list_all term_in_range terms
    && count_in_range (sum_by (λ term. members term.plans) terms) && steps_in_range
    (sum_by (λ term. length term.steps) terms)

abbrev pub term_fits : MatrixTerm Band → Bool
term_fits term = plans_fit term.plans
