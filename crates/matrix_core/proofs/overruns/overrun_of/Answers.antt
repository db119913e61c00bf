-- The counts are those of the steps before, so the test is whether the process's plan has that operation.
use Rattle.std.proofs.Common.{◌≡◌, ◌<◌, ◌≤◌, ℕ, List, refl, arith, ap, sym, ◌∙◌, length, get_or}
use Rattle.std.specs.Prelude.{slice_get, Some}
use Rattle.std.proofs.lemmas.Option.{slice_get-get_or, slice_get_read}
use Rattle.history_core.specs.Schedules.{Overruns}
use Rattle.matrix_core.specs.Runs.{accesses_by, span_by}
use Rattle.matrix_core.proofs.terms.Overruns.{count_more, has_operation, below_next, counted_beyond}
use Rattle.matrix_core.proofs.overruns.overrun_of.Goals as goal

-- the step is one of a process that has a plan
of_process : {P : Type 0} (steps given : List ℕ) (plans : List P) (i : ℕ) → given ≡ steps
    → ((k who : ℕ) → slice_get steps k ≡ Some who → who < length plans) → i < length given → get_or given i 0 < length plans
of_process steps given plans i same each lt = each i (get_or given i 0)
    (ap (λ xs. slice_get xs i) (sym same) ∙ slice_get-get_or given i 0 lt)

pub accesses-accesses-requires : goal.accesses-accesses-requires
accesses-accesses-requires g c = rw c.as_slice-plans.ensures (c.requires.at_least, c.requires.at_most)

pub nonzero_div-made : goal.nonzero_div-made
nonzero_div-made g c = c.accesses-accesses.ensures.some

pub bounds-made-who : goal.bounds-made-who
bounds-made-who g c =
    let l : get_or c.as_slice-who-items.result.now c.loop-step.step 0 < length c.args.term.now.plans =
    of_process c.args.term.now.steps _ c.args.term.now.plans c.loop-step.step
    c.as_slice-who-items.ensures c.requires.steps c.loop-step-test.true in
    let m : length c.args.term.now.plans ≤ 16 = c.requires.at_most in
    omega arith

pub bounds-made-who-in-loop-step : goal.bounds-made-who-in-loop-step
bounds-made-who-in-loop-step g c =
    let l : get_or c.as_slice-who-items.result.now c.loop-step.step 0 < length c.args.term.now.plans =
    of_process c.args.term.now.steps _ c.args.term.now.plans c.loop-step.step
    c.as_slice-who-items.ensures c.requires.steps c.loop-step-test.true in
    let m : length c.args.term.now.plans ≤ 16 = c.requires.at_most in
    omega arith

pub bounds-made-who-in-loop-step-2 : goal.bounds-made-who-in-loop-step-2
bounds-made-who-in-loop-step-2 g c =
    let l : get_or c.as_slice-who-items.result.now c.loop-step.step 0 < length c.args.term.now.plans =
    of_process c.args.term.now.steps _ c.args.term.now.plans c.loop-step.step
    c.as_slice-who-items.ensures c.requires.steps c.loop-step-test.true in
    let m : length c.args.term.now.plans ≤ 16 = c.requires.at_most in
    omega arith

pub bounds-plans-who : goal.bounds-plans-who
bounds-plans-who g c =
    let l : get_or c.as_slice-who-items.result.now c.loop-step.step 0 < length c.args.term.now.plans =
    of_process c.args.term.now.steps _ c.args.term.now.plans c.loop-step.step
    c.as_slice-who-items.ensures c.requires.steps c.loop-step-test.true in
    let long : length c.as_slice-plans.result.now ≡ length c.args.term.now.plans = ap length c.as_slice-plans.ensures in
    omega arith

pub returns-then-made-who-clause-inside : goal.returns-then-made-who-clause-inside
returns-then-made-who-clause-inside g c = rw c.as_slice-who-items.ensures at c.loop-step-test.true

pub loop-step-preserved : goal.loop-step-preserved
loop-step-preserved g c =
    let i : ℕ = c.loop-step.step in
    let who : ℕ = get_or c.as_slice-who-items.result.now i 0 in
    let lt : i < length c.as_slice-who-items.result.now = c.loop-step-test.true in
    let at : slice_get c.args.term.now.steps i ≡ Some who =
    ap (λ xs. slice_get xs i) (sym c.as_slice-who-items.ensures) ∙ slice_get-get_or c.as_slice-who-items.result.now i 0 lt in
    let lw : who < length c.args.term.now.plans = c.requires.steps i who at in
    let small : who < 16 = let m = c.requires.at_most in omega arith in
    let long : length c.as_slice-plans.result.now ≡ length c.args.term.now.plans = ap length c.as_slice-plans.ensures in
    let acc : c.accesses-accesses.result ≡ accesses_by c.args.cells (length c.args.term.now.plans) =
    c.accesses-accesses.ensures.count ∙ ap (accesses_by c.args.cells) long in
    let lp : who < length c.as_slice-plans.result.now = omega arith in
    let plan : slice_get c.args.term.now.plans who ≡ Some c.index-plans-who.result =
    ap (λ xs. slice_get xs who) (sym c.as_slice-plans.ensures)
    ∙ slice_get_read c.as_slice-plans.result.now _ who _ refl lp c.index-plans-who.is in
    record {
      count = count_more c.args.term.now.steps c.loop-step.made i who at small c.loop-step.invariant.count;
      before = below_next {P = λ q. Overruns (span_by c.args.cells c.args.term.now) q → _} i c.loop-step.invariant.before
          (has_operation c.args.cells c.args.term.now i who (get_or c.loop-step.made who 0) c.index-plans-who.result at plan
          (c.loop-step.invariant.count.each who small) (rw acc at (rw c.as_slice.ensures at c.if-made-who.false)));
    }

pub returns-clause-none : goal.returns-clause-none
returns-clause-none g c = counted_beyond c.args.cells c.args.term.now c.loop-step.step
    (rw c.as_slice-who-items.ensures at c.loop-step-test.false) c.loop-step.invariant.before
