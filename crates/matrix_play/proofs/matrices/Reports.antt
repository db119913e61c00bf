-- The report so far: what the terms played gave, with what the terms to come will give, is what all terms give.
use Rattle.std.proofs.Common.{◌≡◌, ℕ, ◌+◌, ◌≤◌, List, [], ◌∷◌, ◌++◌, length, map, drop, refl, sym, ◌∙◌, ap, subst, arith}
use Rattle.std.proofs.Common.{append_assoc, append-nil}
use Rattle.std.specs.Prelude.{slice_get, Option, Some}
use Rattle.std.proofs.lemmas.List.{length-append, drop_all}
use Rattle.history_core.specs.declared.history.Op.{Op}
use Rattle.history_core.specs.declared.history.Term.{Term}
use Rattle.matrix_core.specs.declared.stamp.Stamp.{Stamp}
use Rattle.matrix_core.specs.declared.schedule.MatrixTerm.{MatrixTerm}
use Rattle.matrix_core.specs.Listings.{IsInOrder}
use Rattle.matrix_core.specs.inner.Operations.{one_term}
use Rattle.matrix_core.specs.Runs.{step_count}
use Rattle.matrix_core.proofs.lists.Elements.{drop_next}
use Rattle.matrix_play.specs.inner.PlayedReports.{HasOrders}
use Rattle.matrix_play.specs.inner.MatrixPlays.{MatrixPlaying, matrix_play_of, matrix_plays_of, ops_of, stamps_of, terms_of, next_opening}

module _ {R : Type 0} (all : List (MatrixTerm R)) (first : R) where
  pub record IsReportSoFar (i : ℕ) (opening : R) (now : ℕ) (terms : List Term) (ops : List (Op R)) (stamps : List (Option Stamp))
      (order : List ℕ) : Type 0 where
    pub all_ops : ops ++ ops_of (matrix_plays_of now opening (drop i all)) ≡ ops_of (matrix_plays_of 0 first all)
    pub all_stamps : stamps ++ stamps_of (matrix_plays_of now opening (drop i all)) ≡ stamps_of (matrix_plays_of 0 first all)
    pub all_terms : terms ++ terms_of (length ops) (drop i all) (matrix_plays_of now opening (drop i all))
        ≡ terms_of 0 all (matrix_plays_of 0 first all)
    pub orders : (later : List ℕ) → HasOrders (length ops) (matrix_plays_of now opening (drop i all)) later →
        HasOrders 0 (matrix_plays_of 0 first all) (order ++ later)
    pub steps : now + step_count (drop i all) ≡ step_count all
    pub long : length stamps ≡ length ops

  pub report_begins : IsReportSoFar 0 first 0 [] [] [] []
  report_begins = record { all_ops = refl; all_stamps = refl; all_terms = refl; orders = λ later h. h; steps = omega arith; long = refl }

  -- one term more
  pub report_more : (i : ℕ) (opening : R) (now : ℕ) (terms : List Term) (ops : List (Op R)) (stamps : List (Option Stamp))
      (order mine : List ℕ) (term : MatrixTerm R) (run : MatrixPlaying R)
      → slice_get all i ≡ Some term → run ≡ matrix_play_of now opening term → length run.stamps ≡ length run.ops →
      IsInOrder run.ops run.stamps mine
      → IsReportSoFar i opening now terms ops stamps order
      → IsReportSoFar (i + 1) (next_opening opening run) (now + length term.steps) (terms ++ record {
        first = length ops;
        limit =
            term.limit;
      } ∷ []) (ops ++ run.ops) (stamps ++ run.stamps) (order ++ map (λ p. length ops + p) mine)
  report_more i opening now terms ops stamps order mine term run h e long sorted r =
      let rest : List (MatrixTerm R) = drop (i + 1) all in
      let d : drop i all ≡ term ∷ rest = drop_next all i term h in
      let later_runs : List (MatrixPlaying R) = matrix_plays_of (now + length term.steps) (next_opening opening run) rest in
      let rs : matrix_plays_of now opening (drop i all) ≡ run ∷ later_runs
      = ap (matrix_plays_of now opening) d
      ∙ ap (λ z. z ∷ matrix_plays_of (now + length term.steps) (next_opening opening z) rest) (sym e) in
      let l : length (ops ++ run.ops) ≡ length ops + length run.ops = length-append ops run.ops in
      record {
        all_ops = append_assoc ops run.ops (ops_of later_runs) ∙ (ap (λ z. ops ++ ops_of z) (sym rs) ∙ r.all_ops);
        all_stamps = append_assoc stamps run.stamps (stamps_of later_runs) ∙ (ap (λ z. stamps ++ stamps_of z) (sym rs) ∙ r.all_stamps);
        all_terms =
            append_assoc terms (record { first = length ops; limit = term.limit } ∷ []) (terms_of (length (ops ++ run.ops)) rest later_runs)
            ∙ (ap (λ n. terms ++ record { first = length ops; limit = term.limit } ∷ terms_of n rest later_runs) l
            ∙ (ap (λ z. terms ++ terms_of (length ops) (term ∷ rest) z) (sym rs)
            ∙ (ap (λ z. terms ++ terms_of (length ops) z (matrix_plays_of now opening (drop i all))) (sym d) ∙ r.all_terms)));
        orders = λ later o.
            let o' : HasOrders (length ops + length run.ops) later_runs later = subst (λ n. HasOrders n later_runs later) l o in
            let o2 : HasOrders (length ops) (run ∷ later_runs) (map (λ p. length ops + p) mine ++ later) =
            (mine, later, refl, sorted, o') in
            let o3 : HasOrders (length ops) (matrix_plays_of now opening (drop i all)) (map (λ p. length ops + p) mine ++ later) =
            subst (λ z. HasOrders (length ops) z (map (λ p. length ops + p) mine ++ later)) (sym rs) o2 in
            subst (λ z. HasOrders 0 (matrix_plays_of 0 first all) z) (sym (append_assoc order (map (λ p. length ops + p) mine) later))
            (r.orders (map (λ p. length ops + p) mine ++ later) o3);
        steps =
            let s : now + step_count (drop i all) ≡ step_count all = r.steps in
            let c : step_count (drop i all) ≡ length term.steps + step_count rest = ap step_count d in
            omega arith;
        long = length-append stamps run.stamps ∙ (ap (λ n. n + length run.stamps) r.long ∙ (ap (λ n. length ops + n) long ∙ sym l));
      }

  -- the same, as the code has its parts
  pub report_step : (i : ℕ) (opening opening' : R) (now now' : ℕ) (terms terms' : List Term) (ops ops' : List (Op R))
      (stamps stamps' : List (Option Stamp)) (order order' mine : List ℕ) (term : MatrixTerm R) (run : MatrixPlaying R)
      → slice_get all i ≡ Some term → run ≡ matrix_play_of now opening term → length run.stamps ≡ length run.ops
      → opening' ≡ next_opening opening run → now' ≡ now + length term.steps →
      terms' ≡ terms ++ one_term (length ops) term.limit → ops' ≡ ops ++ run.ops → stamps' ≡ stamps ++ run.stamps
      → IsInOrder run.ops run.stamps mine → order' ≡ order ++ map (λ p. length ops + p) mine
      → IsReportSoFar i opening now terms ops stamps order → IsReportSoFar (i + 1) opening' now' terms' ops' stamps' order'
  report_step i opening opening' now now' terms terms' ops ops' stamps stamps' order order' mine term run at is long eo en et eops est
      sorted eord r =
      rw (eo, en, et, eops, est, eord) (report_more i opening now terms ops stamps order mine term run at is long sorted r)

  -- no term is left
  pub report_ends : (i : ℕ) (opening : R) (now : ℕ) (terms : List Term) (ops : List (Op R)) (stamps : List (Option Stamp))
      (order : List ℕ) → length all ≤ i → IsReportSoFar i opening now terms ops stamps order
      → (terms ≡ terms_of 0 all (matrix_plays_of 0 first all)) × (ops ≡ ops_of (matrix_plays_of 0 first all))
      × (stamps ≡ stamps_of (matrix_plays_of 0 first all)) × HasOrders 0 (matrix_plays_of 0 first all) order
  report_ends i opening now terms ops stamps order l r =
      let d : drop i all ≡ [] = drop_all i all l in (
        sym (append-nil terms) ∙ (ap (λ z. terms ++ terms_of (length ops) z (matrix_plays_of now opening z)) (sym d) ∙ r.all_terms),
        sym (append-nil ops) ∙ (ap (λ z. ops ++ ops_of (matrix_plays_of now opening z)) (sym d) ∙ r.all_ops),
        sym (append-nil stamps) ∙ (ap (λ z. stamps ++ stamps_of (matrix_plays_of now opening z)) (sym d) ∙ r.all_stamps),
        subst (λ z. HasOrders 0 (matrix_plays_of 0 first all) z) (append-nil order)
            (r.orders [] (subst (λ z. HasOrders (length ops) (matrix_plays_of now opening z) []) (sym d) refl)),
      )
