-- What the slices have is what the schedule's lists have, and what is assembled of them is its report.
use Rattle.std.proofs.Common.{◌≡◌, List, [], ◌∷◌, subst}
use Rattle.history_core.specs.Schedules.{HasOperations, IsFirstOverrun}
use Rattle.four_slot_core.specs.declared.schedule.Turn.{Turn}
use Rattle.four_slot_core.specs.Play.{span_of}
use Rattle.four_slot_play.specs.inner.Runs.{IsAssembled, numbered_run}
use Rattle.four_slot_play.proofs.player.report.CellReports.{is_cell_report}
use Rattle.four_slot_play.proofs.player.play_cell.Goals as goal

-- a fact of the two slices is one of the schedule's lists
along : {R : Type 0} (P : List Turn → List R → Type 0) (steps s : List Turn) (writes w : List R) → steps ≡ s →
    writes ≡ w → P steps writes → P s w
along P steps s writes w es ew h = subst (P s) ew (subst (λ t. P t writes) es h)

pub returns-in-Some-clause-refused : goal.returns-in-Some-clause-refused
returns-in-Some-clause-refused g c =
    along (λ steps writes. IsFirstOverrun (span_of steps writes c.args.s.now.reads ∷ []) c.in-Some.position) _ _ _ _
    c.as_slice-steps.ensures c.as_slice-writes.ensures c.in-Some.ensures.overrun

pub returns-in-Err-clause-refused : goal.returns-in-Err-clause-refused
returns-in-Err-clause-refused g c =
    along (λ steps writes. HasOperations (span_of steps writes c.args.s.now.reads ∷ [])) _ _ _ _ c.as_slice-steps.ensures
    c.as_slice-writes.ensures c.in_default.ensures.none

pub returns-in-Ok-clause-report : goal.returns-in-Ok-clause-report
returns-in-Ok-clause-report g c =
    let r = c.in-Ok.report in
    let s = c.args.s.now in
    is_cell_report s r
    (along (λ steps writes. HasOperations (span_of steps writes s.reads ∷ [])) _ _ _ _ c.as_slice-steps.ensures c.as_slice-writes.ensures
    c.in_default.ensures.none)
    (along (λ steps writes. IsAssembled (numbered_run s.opening s.noise writes steps) steps writes r.history.terms r.history.ops r.slots
    r.order) _ _ _ _ c.as_slice-steps.ensures c.as_slice-writes.ensures c.in-Ok.ensures.assembled)
    c.order_by_number.ensures c.in-Ok.ensures.opening
