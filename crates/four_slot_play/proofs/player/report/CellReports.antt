-- What is assembled of a schedule's run is the report of the schedule: each fact of it is a lemma over the parts that it is made of.
use Rattle.std.proofs.Common.{◌≡◌, ℕ, List, [], ◌∷◌}
use Rattle.history_core.specs.declared.history.Op.{Op}
use Rattle.history_core.specs.Numbers.{IsByNumber}
use Rattle.history_core.specs.Orders.{KeepsPrecedence}
use Rattle.history_core.specs.Schedules.{HasOperations}
use Rattle.four_slot_core.specs.declared.schedule.CellReport.{CellReport}
use Rattle.four_slot_core.specs.declared.schedule.CellSchedule.{CellSchedule}
use Rattle.four_slot_core.specs.Play.{cell_span}
use Rattle.four_slot_play.specs.CellReports.{IsAtomicReport, IsCellReport, IsRunReport}
use Rattle.four_slot_play.specs.inner.Runs.{IsAssembled, numbered_run}
use Rattle.four_slot_play.proofs.player.steps.Shape.{assembled_shape}
use Rattle.four_slot_play.proofs.player.report.Accesses.{Assembled, is_clear, is_fresh, is_of_run, of_trace, refuses}
use Rattle.four_slot_play.proofs.player.order.ReportOrder.{answers_sources, atomic, by_number, is_report_order, number}

-- an order by number keeps precedence
abbrev pub ByNumberKeeps : Type 0 → Type 0
ByNumberKeeps R = (number : ℕ → ℕ) (ops : List (Op R)) (order : List ℕ) → IsByNumber number ops order → KeepsPrecedence ops order

module _ {R : Type 0} (s : CellSchedule R) (r : CellReport R) (has : HasOperations (cell_span s ∷ []))
    (assembled : IsAssembled (numbered_run s.opening s.noise s.writes s.steps) s.steps s.writes r.history.terms
    r.history.ops r.slots r.order) where
  parts : Assembled s.opening s.noise s.steps s.writes s.reads r.history.terms r.history.ops r.slots r.order
  parts = of_trace s.opening s.noise s.steps s.writes s.reads r.history.terms r.history.ops r.slots r.order assembled

  is_run_report : IsRunReport s r
  is_run_report = record {
    run = is_of_run s.opening s.noise s.steps s.writes s.reads r.history.terms r.history.ops r.slots r.order parts;
    clear = is_clear s.opening s.noise s.steps s.writes s.reads r.history.terms r.history.ops r.slots r.order parts;
    fresh = is_fresh s.opening s.noise s.steps s.writes s.reads r.history.terms r.history.ops r.slots r.order parts;
    answers = answers_sources s.opening s.noise s.steps s.writes s.reads r.history.terms r.history.ops r.slots r.order parts;
    order = is_report_order s.opening s.noise s.steps s.writes s.reads r.history.terms r.history.ops r.slots r.order parts;
  }

  is_atomic_report : ByNumberKeeps R → r.history.opening ≡ s.opening → IsAtomicReport s r
  is_atomic_report keeps opens =
      let numbers = by_number s.opening s.noise s.steps s.writes s.reads r.history.terms r.history.ops r.slots r.order parts in
      let own = number s.opening s.noise s.steps s.writes s.reads r.history.terms r.history.ops r.slots r.order parts in record {
        opening = opens;
        shape =
            assembled_shape _ s.steps s.writes s.reads r.history.terms r.history.ops r.slots r.order has assembled;
        atomic =
            atomic s.opening s.noise s.steps s.writes s.reads r.history.terms r.history.ops r.slots r.order parts has
            (keeps own r.history.ops r.order numbers);
        refuses = refuses s.opening s.noise s.steps s.writes s.reads r.history.terms r.history.ops r.slots r.order parts;
      }

  pub is_cell_report : ByNumberKeeps R → r.history.opening ≡ s.opening → IsCellReport s r
  is_cell_report keeps opens = record { played = has; means = is_atomic_report keeps opens; comes_of = is_run_report }
