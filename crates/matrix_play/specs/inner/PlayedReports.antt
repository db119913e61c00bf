-- The report that the player makes of the runs of a schedule's terms. Only the player's private functions cite this,
-- which is this project's own; what is promised of a report stands in Listings.
use Rattle.std.specs.Prelude.{◌≡◌, ℕ, ◌+◌, List, [], ◌∷◌, ◌++◌, length, map}
use Rattle.matrix_core.specs.declared.schedule.MatrixSchedule.{MatrixSchedule}
use Rattle.matrix_core.specs.declared.schedule.MatrixReport.{MatrixReport}
use Rattle.matrix_core.specs.Listings.{IsInOrder}
use Rattle.matrix_play.specs.inner.MatrixPlays.{MatrixPlaying, ops_of, matrix_plays_of, stamps_of, terms_of}

module _ {R : Type 0} where
  -- the orders of the terms, where the operations of the first have places from `place` on
  abbrev pub HasOrders : ℕ → List (MatrixPlaying R) → List ℕ → Type 0
  HasOrders place [] order = order ≡ []
  HasOrders place (run ∷ runs) order =
      (mine : List ℕ) × (later : List ℕ) × (order ≡ map (λ p. place + p) mine ++ later)
      × IsInOrder run.ops run.stamps mine × HasOrders (place + length run.ops) runs later

  -- the report of a schedule's run
  pub record IsReport (schedule : MatrixSchedule R) (report : MatrixReport R) : Type 0 where
    pub opening : report.history.opening ≡ schedule.opening
    pub terms : report.history.terms ≡ terms_of 0 schedule.terms (matrix_plays_of 0 schedule.opening schedule.terms)
    pub ops : report.history.ops ≡ ops_of (matrix_plays_of 0 schedule.opening schedule.terms)
    pub stamps : report.stamps ≡ stamps_of (matrix_plays_of 0 schedule.opening schedule.terms)
    pub order : HasOrders 0 (matrix_plays_of 0 schedule.opening schedule.terms) report.order
