-- Each turn of the loop adds one term, with its run and its order.
use Rattle.std.proofs.Common.{◌≡◌, ◌<◌, ◌≤◌, ◌+◌, ℕ, arith, refl, ap, sym, ◌∙◌, length}
use Rattle.std.specs.Prelude.{slice_get, Some}
use Rattle.std.proofs.lemmas.Option.{slice_get_read}
use Rattle.matrix_core.specs.Runs.{step_count}
use Rattle.matrix_core.specs.declared.overruns.Cells.TheVariants.{FourSlot}
use Rattle.matrix_core.specs.declared.schedule.MatrixTerm.{MatrixTerm}
use Rattle.matrix_core.proofs.terms.Overruns.{steps_left, term_left}
use Rattle.composed_play.proofs.boards.Joined.{board_report, report_ends, report_step}
use Rattle.composed_play.proofs.boards.Terms.{long_stamps}
use Rattle.composed_play.proofs.board_report.play_board_terms.Goals as goal

pub play_board_term-requires-clause-term : goal.play_board_term-requires-clause-term
play_board_term-requires-clause-term g c =
    let at = slice_get_read c.as_slice-term-items.result.now _ c.loop-term.term-index c.term-item.result refl
    c.loop-term-test.true c.term-item.is in
    c.requires.can.each c.loop-term.term-index c.term-item.result
    (ap (λ z. slice_get z c.loop-term.term-index) (sym c.as_slice-term-items.ensures) ∙ at)

pub play_board_term-requires-clause-left : goal.play_board_term-requires-clause-left
play_board_term-requires-clause-left g c =
    let at = slice_get_read c.as_slice-term-items.result.now _ c.loop-term.term-index c.term-item.result refl
    c.loop-term-test.true c.term-item.is in
    term_left FourSlot c.args.schedule.now.terms c.loop-term.term-index c.term-item.result
    (ap (λ z. slice_get z c.loop-term.term-index) (sym c.as_slice-term-items.ensures) ∙ at) c.requires.left

pub add_term-requires-clause-told : goal.add_term-requires-clause-told
add_term-requires-clause-told g c = c.loop-term.invariant.long

pub add_term-requires-clause-play : goal.add_term-requires-clause-play
add_term-requires-clause-play g c =
    let i : ℕ = c.loop-term.term-index in
    let term : MatrixTerm g.row.R.Denot = c.term-item.result in
    let at : slice_get c.args.schedule.now.terms i ≡ Some term
    = ap (λ z. slice_get z i) (sym c.as_slice-term-items.ensures)
    ∙ slice_get_read c.as_slice-term-items.result.now _ i term refl c.loop-term-test.true c.term-item.is in
    long_stamps c.loop-term.now c.loop-term.opening c.args.schedule.now.noise term c.in_ok-play.play (c.requires.can.each i term at)
    (term_left FourSlot c.args.schedule.now.terms i term at c.requires.left) c.in_ok-play.ensures

pub loop-term-preserved : goal.loop-term-preserved
loop-term-preserved g c =
    let i : ℕ = c.loop-term.term-index in
    let term : MatrixTerm g.row.R.Denot = c.term-item.result in
    let at : slice_get c.args.schedule.now.terms i ≡ Some term
    = ap (λ z. slice_get z i) (sym c.as_slice-term-items.ensures)
    ∙ slice_get_read c.as_slice-term-items.result.now _ i term refl c.loop-term-test.true c.term-item.is in
    let listed = c.in_ok-add_term.ensures.order in
    report_step c.args.schedule.now.terms c.args.schedule.now.opening c.args.schedule.now.noise i c.loop-term.opening
    c.greatest-opening.result c.loop-term.now (c.loop-term.now + length c.as_slice.result.now)
    c.loop-term.told.terms.items c.add_term.new.told.terms.items c.loop-term.told.ops.items c.add_term.new.told.ops.items
    c.loop-term.told.stamps.items c.add_term.new.told.stamps.items c.loop-term.told.slots.items c.add_term.new.told.slots.items
    c.loop-term.told.order.items c.add_term.new.told.order.items listed.0 term c.in_ok-play.play
    at (c.requires.can.each i term at) (term_left FourSlot c.args.schedule.now.terms i term at c.requires.left) c.in_ok-play.ensures
    c.greatest-opening.ensures (ap (λ z. c.loop-term.now + length z) c.as_slice.ensures) c.in_ok-add_term.ensures.terms
    c.in_ok-add_term.ensures.ops c.in_ok-add_term.ensures.stamps c.in_ok-add_term.ensures.slots listed.1 listed.2 c.loop-term.invariant

pub returns : goal.returns
returns g c =
    let done : length c.args.schedule.now.terms ≤ c.loop-term.term-index = rw c.as_slice-term-items.ensures at c.loop-term-test.false in
    let e = report_ends c.args.schedule.now.terms c.args.schedule.now.opening c.args.schedule.now.noise c.loop-term.term-index
    c.loop-term.opening c.loop-term.now c.loop-term.told.terms.items c.loop-term.told.ops.items c.loop-term.told.stamps.items
    c.loop-term.told.slots.items c.loop-term.told.order.items done c.loop-term.invariant in
    board_report c.args.schedule.now _ refl (record {
      parts = e.0;
      each = e.1;
      terms = c.new-6.ensures ∙ e.2;
      ops = c.new-7.ensures ∙ e.3;
      stamps = c.new-8.ensures ∙ e.4;
      slots = c.new-9.ensures ∙ e.5;
      order = c.new-10.ensures ∙ e.6;
    })

pub overflow_add-now : goal.overflow_add-now
overflow_add-now g c =
    let i : ℕ = c.loop-term.term-index in
    let term : MatrixTerm g.row.R.Denot = c.term-item.result in
    let at : slice_get c.args.schedule.now.terms i ≡ Some term
    = ap (λ z. slice_get z i) (sym c.as_slice-term-items.ensures)
    ∙ slice_get_read c.as_slice-term-items.result.now _ i term refl c.loop-term-test.true c.term-item.is in
    let s : c.loop-term.now + length term.steps ≤ step_count c.args.schedule.now.terms =
    steps_left _ i c.loop-term.now term at c.loop-term.invariant.steps in
    let few : step_count c.args.schedule.now.terms < 18446744073709551615 = c.requires.can.steps in
    let e : length c.as_slice.result.now ≡ length term.steps = ap length c.as_slice.ensures in
    omega arith

pub play_board_term-requires-clause-room : goal.play_board_term-requires-clause-room
play_board_term-requires-clause-room g c =
    let i : ℕ = c.loop-term.term-index in
    let term : MatrixTerm g.row.R.Denot = c.term-item.result in
    let at : slice_get c.args.schedule.now.terms i ≡ Some term
    = ap (λ z. slice_get z i) (sym c.as_slice-term-items.ensures)
    ∙ slice_get_read c.as_slice-term-items.result.now _ i term refl c.loop-term-test.true c.term-item.is in
    let s : c.loop-term.now + length term.steps ≤ step_count c.args.schedule.now.terms =
    steps_left _ i c.loop-term.now term at c.loop-term.invariant.steps in
    let few : step_count c.args.schedule.now.terms < 18446744073709551615 = c.requires.can.steps in
    omega arith
