-- The positions go on through the terms before, each step of which has an operation.
use Rattle.std.proofs.Common.{◌≡◌, ◌<◌, ◌≤◌, ◌+◌, refl, arith, ap, length}
use Rattle.std.specs.Prelude.{slice_get, Some}
use Rattle.std.proofs.lemmas.Option.{slice_get_read}
use Rattle.matrix_core.specs.Runs.{step_count}
use Rattle.matrix_core.proofs.terms.Overruns.{before_more, before_room, before_first}
use Rattle.matrix_core.proofs.overruns.first_overrun.Goals as goal

pub overrun_of-requires : goal.overrun_of-requires
overrun_of-requires g c = c.requires.each c.loop-term.term-index c.term-item.result
    (slice_get_read c.args.terms.now _ c.loop-term.term-index _ refl c.loop-term-test.true c.term-item.is)

pub overflow_add-result : goal.overflow_add-result
overflow_add-result g c =
    let at : slice_get c.args.terms.now c.loop-term.term-index ≡ Some c.term-item.result =
    slice_get_read c.args.terms.now _ c.loop-term.term-index _ refl c.loop-term-test.true c.term-item.is in
    let room : c.loop-term.before + length c.term-item.result.steps ≤ step_count c.args.terms.now =
    before_room c.args.cells c.args.terms.now c.loop-term.term-index c.loop-term.before c.term-item.result at c.loop-term.invariant in
    let inside : c.in-Some.step < length c.term-item.result.steps = c.in-Some.ensures.inside in
    let few : step_count c.args.terms.now < 18446744073709551615 = c.requires.steps in
    omega arith

pub returns-in-Some-clause-first : goal.returns-in-Some-clause-first
returns-in-Some-clause-first g c =
    before_first c.args.cells c.args.terms.now c.loop-term.term-index c.loop-term.before c.in-Some.step c.term-item.result
    (slice_get_read c.args.terms.now _ c.loop-term.term-index _ refl c.loop-term-test.true c.term-item.is)
    c.loop-term.invariant c.in-Some.ensures.first.0 c.in-Some.ensures.first.1

pub overflow_add-before : goal.overflow_add-before
overflow_add-before g c =
    let at : slice_get c.args.terms.now c.loop-term.term-index ≡ Some c.term-item.result =
    slice_get_read c.args.terms.now _ c.loop-term.term-index _ refl c.loop-term-test.true c.term-item.is in
    let room : c.loop-term.before + length c.term-item.result.steps ≤ step_count c.args.terms.now =
    before_room c.args.cells c.args.terms.now c.loop-term.term-index c.loop-term.before c.term-item.result at c.loop-term.invariant in
    let few : step_count c.args.terms.now < 18446744073709551615 = c.requires.steps in
    let e : length c.as_slice.result.now ≡ length c.term-item.result.steps = ap length c.as_slice.ensures in
    omega arith

pub loop-term-preserved : goal.loop-term-preserved
loop-term-preserved g c =
    let at : slice_get c.args.terms.now c.loop-term.term-index ≡ Some c.term-item.result =
    slice_get_read c.args.terms.now _ c.loop-term.term-index _ refl c.loop-term-test.true c.term-item.is in
    rw c.as_slice.ensures (before_more c.args.cells c.args.terms.now c.loop-term.term-index c.loop-term.before c.term-item.result
    at c.in-None.ensures.none c.loop-term.invariant)
