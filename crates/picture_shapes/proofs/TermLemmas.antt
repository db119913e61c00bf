-- One process more of a term, and that a term has no more processes than the widest.
use Rattle.std.proofs.Common.{rules, ◌≡◌, ◌≤◌, ℕ, ◌+◌, ◌++◌, List, [], ◌∷◌, Option, Some, max, zero, suc, length, slice_get, add-one, ap}
use Rattle.std.proofs.Common.{arith, refl, subst, sym, ◌∙◌}
use Rattle.std.proofs.lemmas.Option.{same_Some}
use Rattle.std.specs.List.{fold}
use Rattle.history_core.specs.Schedules.{access_at, board_accesses, positions}
use Rattle.history_core.specs.declared.band.Band.{Band}
use Rattle.history_core.specs.declared.history.Op.{Op}
use Rattle.matrix_core.specs.Runs.{board_span}
use Rattle.matrix_core.specs.Runs.{IsTerm}
use Rattle.matrix_core.specs.declared.schedule.MatrixTerm.{MatrixTerm}
use Rattle.picture_shapes.specs.Visits.{AllFit, events_in, own_visits, term_visits, widest}
use Rattle.picture_shapes.specs.declared.visit.Visit.{Visit}
use Rattle.picture_shapes.proofs.Rows.{row}

module _ (at wide who : ℕ) (term : MatrixTerm Band) (rows : List (List (Option ℕ))) (ops : List (Op Band)) where
  own_by : (n e : ℕ) (steps p : List ℕ) → p ≡ positions at who steps → steps ≡ term.steps → e ≡ board_accesses n → n ≡ length term.plans
      → own_visits (events_in p e) wide n who rows 0 0 ops
      ≡ own_visits (access_at at (board_span term) who) wide (length term.plans) who rows 0 0 ops
  own_by n e steps p same_positions same_steps same_events same_number =
      rw same_positions (rw same_events (rw same_number (rw same_steps refl)))

  pub term_step : (n e : ℕ) (steps p : List ℕ) (start before after : List Visit)
      → p ≡ positions at who steps → steps ≡ term.steps → e ≡ board_accesses n → n ≡ length term.plans
      → before ≡ start ++ term_visits at (board_span term) wide rows ops who
      → after ≡ before ++ own_visits (events_in p e) wide n who rows 0 0 ops
      → after ≡ start ++ term_visits at (board_span term) wide rows ops (who + 1)
  term_step n e steps p start before after same_positions same_steps same_events same_number so_far pushed =
      let own = own_visits (access_at at (board_span term) who) wide (length term.plans) who rows 0 0 ops in
      let same = own_by n e steps p same_positions same_steps same_events same_number in
      let told : after ≡ before ++ own = pushed ∙ ap (λ v. before ++ v) same in
      let next = ap (term_visits at (board_span term) wide rows ops) (add-one who) in
      let all = term_visits at (board_span term) wide rows ops in
      row start (all who) own before after (all (who + 1)) next so_far told

abbrev wider : ℕ → MatrixTerm Band → ℕ
wider n term = max n (length term.plans)

rises : (terms : List (MatrixTerm Band)) (n : ℕ) → n ≤ fold wider n terms
rises [] n = omega arith
rises (x ∷ xs) n =
    let more : max n (length x.plans) ≤ fold wider (max n (length x.plans)) xs = rises xs (max n (length x.plans)) in omega arith

bound : (terms : List (MatrixTerm Band)) (n t : ℕ) (term : MatrixTerm Band) → slice_get terms t ≡ Some term
    → length term.plans ≤ fold wider n terms
bound [] n t term at = absurd (cc)
bound (x ∷ xs) n zero term at =
    let more : max n (length x.plans) ≤ fold wider (max n (length x.plans)) xs = rises xs (max n (length x.plans)) in
    let same : x ≡ term = same_Some x term at in
    let e : length x.plans ≡ length term.plans = ap (λ y. length y.plans) same in
    omega arith
bound (x ∷ xs) n (suc t) term at = bound xs (max n (length x.plans)) t term at

pub all_fit : (terms : List (MatrixTerm Band)) (wide : ℕ) → wide ≡ widest terms → wide ≤ 4
    → ((t : ℕ) (term : MatrixTerm Band) → slice_get terms t ≡ Some term → IsTerm term) → AllFit terms
all_fit terms wide is few each = λ t term at.
    let most : length term.plans ≤ widest terms = bound terms 0 t term at in
    let least : 2 ≤ length term.plans = (each t term at).at_least in
    (omega arith, omega arith)
