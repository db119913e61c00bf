-- What a report of a cell's schedule is, in one word: everything that `play_cell` promises of it. Histories and orders
-- are those of L. Lamport, On Interprocess Communication, Parts I and II, Distributed Computing 1, 1986; the report is
-- this project's own.
use Rattle.std.specs.Prelude.{◌≡◌, [], ◌∷◌}
use Rattle.history_core.specs.Orders.{IsAtomicOrder, RefusesLawfully}
use Rattle.history_core.specs.Schedules.{HasOperations, HasShape}
use Rattle.four_slot_core.specs.Accesses.{Accesses, IsClear}
use Rattle.four_slot_core.specs.Play.{run, cell_span}
use Rattle.four_slot_core.specs.declared.schedule.CellReport.{CellReport}
use Rattle.four_slot_core.specs.declared.schedule.CellSchedule.{CellSchedule}
use Rattle.four_slot_play.specs.ReportOrders.{IsReportOrder}
use Rattle.four_slot_play.specs.Reports.{AnswersSources, IsFreshReport, IsOfRun, reader_of, writer_of}

module _ {R : Type 0} where
  -- the report's writes and reads as accesses of the cell
  abbrev pub writer_in : CellSchedule R → CellReport R → Accesses
  writer_in s r = writer_of (cell_span s) r.history.ops r.slots

  abbrev pub reader_in : CellSchedule R → CellReport R → Accesses
  reader_in s r = reader_of (cell_span s) r.history.ops r.slots

  -- what a report means: it has the schedule's operations with their intervals, and its order of them is atomic; no
  -- write of a cell is refused
  pub record IsAtomicReport (s : CellSchedule R) (r : CellReport R) : Type 0 where
    pub opening : r.history.opening ≡ s.opening
    pub shape : HasShape (cell_span s ∷ []) r.history.terms r.history.ops
    pub atomic : IsAtomicOrder (λ x y. x ≡ y) s.opening r.history.ops r.order
    pub refuses : RefusesLawfully r.history.terms r.history.ops r.order

  -- how it came about: its slots and answers are those of the schedule's run, no slot is written while the reader is in
  -- it, each finished read is fresh and has the record of its source, and the order goes by the numbers of these
  pub record IsRunReport (s : CellSchedule R) (r : CellReport R) : Type 0 where
    pub run : IsOfRun (cell_span s) (run s.opening s.noise s.writes s.steps) r.history.ops r.slots
    pub clear : IsClear (writer_in s r) (reader_in s r)
    pub fresh : IsFreshReport (writer_in s r) (reader_in s r)
    pub answers : AnswersSources (writer_in s r) (reader_in s r) s.opening s.writes r.history.ops
    pub order : IsReportOrder (writer_in s r) (reader_in s r) r.history.ops r.order

  -- the report of a schedule each of whose steps has an operation
  pub record IsCellReport (s : CellSchedule R) (r : CellReport R) : Type 0 where
    pub played : HasOperations (cell_span s ∷ [])
    pub means : IsAtomicReport s r
    pub comes_of : IsRunReport s r
