-- Consequences of a report and of a search, operation by operation (this project's own).
use Rattle.std.specs.Prelude.{◌≡◌, ℕ, ◌+◌, ◌-◌, ◌<◌, ◌≤◌, List, [], ◌∷◌, slice_get, Some, IsSome, ◌⊎◌}
use Rattle.history_core.specs.declared.history.Op.{Op}
use Rattle.history_core.specs.declared.history.Term.{Term}
use Rattle.history_core.specs.Orders.{IsAtomicOrder, RefusesLawfully}
use Rattle.history_core.specs.Schedules.{access_at, Follows, planned, Span}
use Rattle.four_slot_core.specs.Accesses.{IsSameSlot}
use Rattle.history_core.specs.Registers.{IsBefore}
use Rattle.four_slot_core.specs.Play.{cell_span, item_of}
use Rattle.four_slot_core.specs.Traces.{source_record}
use Rattle.four_slot_core.specs.declared.schedule.CellReport.{CellReport}
use Rattle.four_slot_core.specs.declared.schedule.CellSchedule.{CellSchedule}
use Rattle.four_slot_play.specs.CellReports.{IsCellReport, reader_in, writer_in}
use Rattle.matrix_core.specs.declared.schedule.BoardReport.{BoardReport}
use Rattle.matrix_core.specs.declared.schedule.BoardSchedule.{BoardSchedule}
use Rattle.matrix_core.specs.declared.schedule.MatrixReport.{MatrixReport}
use Rattle.matrix_core.specs.declared.schedule.MatrixSchedule.{MatrixSchedule}
use Rattle.matrix_core.specs.declared.schedule.MatrixTerm.{MatrixTerm}
use Rattle.matrix_core.specs.Runs.{board_span, span_of}
use Rattle.composed_play.specs.BoardReports.{IsBoardReport}
use Rattle.matrix_play.specs.MatrixReports.{IsMatrixReport}
use Rattle.history_core.specs.Searches.{IsAnswered}
use Rattle.history_core.specs.declared.reason.Search.TheVariants.{Order, Unlawful}
use Rattle.history_core.specs.declared.reason.Reason.{Reason}
use Rattle.history_core.specs.Reasons.{IsReason, rule_of}

module _ (R : Type 0) where
  -- the operations of one term that begins with the schedule: each that begins is there, with its interval and what it
  -- was to do, nothing else is, and they stand in order of beginning
  pub record HasItsOperations (span : Span R) (terms : List Term) (ops : List (Op R)) : Type 0 where
    pub there : (who k begin : ℕ) → access_at 0 span who k 0 ≡ Some begin →
        (p : ℕ) × (op : Op R) × (slice_get ops p ≡ Some op) × (op.who ≡ who) × (op.starts ≡ begin)
    pub planned_so : (p : ℕ) (op : Op R) → slice_get ops p ≡ Some op →
        (k : ℕ) × (access_at 0 span op.who k 0 ≡ Some op.starts)
        × (access_at 0 span op.who k (span.accesses - 1) ≡ op.ends) × Follows (planned span op.who k) op
    pub rising : (p q : ℕ) (a b : Op R) → slice_get ops p ≡ Some a → slice_get ops q ≡ Some b → p < q →
        a.starts < b.starts
    pub limited : terms ≡ record { first = 0; limit = span.limit } ∷ []

  -- a report of one term has its operations, in an atomic order that refuses lawfully
  pub record IsAtomicHistory (opening : R) (span : Span R) (terms : List Term) (ops : List (Op R))
      (order : List ℕ) : Type 0 where
    pub operations : HasItsOperations span terms ops
    pub atomic : IsAtomicOrder (λ x y. x ≡ y) opening ops order
    pub refuses : RefusesLawfully terms ops order

  abbrev pub CellReportsShow : Type 0
  CellReportsShow = (s : CellSchedule R) (r : CellReport R) → IsCellReport s r →
      IsAtomicHistory s.opening (cell_span s) r.history.terms r.history.ops r.order × (r.history.opening ≡ s.opening)

  abbrev pub MatrixReportsShow : Type 0
  MatrixReportsShow = (s : MatrixSchedule R) (r : MatrixReport R) (term : MatrixTerm R) → s.terms ≡ term ∷ [] →
      IsMatrixReport s r → IsAtomicHistory s.opening (span_of term) r.history.terms r.history.ops r.order
      × (r.history.opening ≡ s.opening)

  abbrev pub BoardReportsShow : Type 0
  BoardReportsShow = (s : BoardSchedule R) (r : BoardReport R) (term : MatrixTerm R) → s.terms ≡ term ∷ [] →
      IsBoardReport s r → IsAtomicHistory s.opening (board_span term) r.history.terms r.history.ops r.order
      × (r.history.opening ≡ s.opening)

  -- a read that begins after write k has ended answers that write's record, or a later one's
  abbrev pub ReadsNoOlderWrite : Type 0
  ReadsNoOlderWrite = (s : CellSchedule R) (r : CellReport R) (k m p : ℕ) (op : Op R) → IsCellReport s r →
      slice_get r.history.ops p ≡ Some op → op.who ≡ 1 → (reader_in s r).at m 0 ≡ Some op.starts → IsSome op.ends →
      IsSome ((reader_in s r).at m 4) → IsBefore ((writer_in s r).at k 4) ((reader_in s r).at m 0) →
      (n : ℕ) × (k + 1 ≤ n) × (op.item ≡ Some (source_record s.opening (item_of s.opening s.writes) n))

  -- no slot is written while the reader is in it
  abbrev pub KeepsApart : Type 0
  KeepsApart = (s : CellSchedule R) (r : CellReport R) (k m : ℕ) → IsCellReport s r →
      IsSameSlot ((writer_in s r).slot k) ((reader_in s r).slot m) → IsSome ((writer_in s r).at k 1) →
      IsSome ((reader_in s r).at m 3) → IsBefore ((writer_in s r).at k 2) ((reader_in s r).at m 3)
      ⊎ IsBefore ((reader_in s r).at m 4) ((writer_in s r).at k 1)

  -- a found order is lawful, and where a reason is told no order is, and no reason is of an earlier rule
  abbrev pub SearchesRightly : Type 0
  SearchesRightly = (opening : R) (limit : ℕ) (ops : List (Op R)) (order : List ℕ) →
      (IsAnswered (λ x y. x ≡ y) opening (record { first = 0; limit = limit } ∷ []) ops (Order order) →
      IsAtomicOrder (λ x y. x ≡ y) opening ops order
      × RefusesLawfully (record { first = 0; limit = limit } ∷ []) ops order)
      × ((reason : Reason) →
      IsAnswered (λ x y. x ≡ y) opening (record { first = 0; limit = limit } ∷ []) ops (Unlawful reason) →
      (IsAtomicOrder (λ x y. x ≡ y) opening ops order →
      RefusesLawfully (record { first = 0; limit = limit } ∷ []) ops order → ⊥)
      × IsReason (λ x y. x ≡ y) opening limit ops reason
      × ((other : Reason) → IsReason (λ x y. x ≡ y) opening limit ops other → rule_of other < rule_of reason → ⊥))
