-- Each step of the loop is a step of the run.
use Rattle.std.proofs.Common.{◌≡◌, ◌<◌, ◌≤◌, ℕ, List, ap, sym, ◌∙◌, length, get_or}
use Rattle.std.specs.Prelude.{slice_get, Some}
use Rattle.std.proofs.lemmas.Option.{slice_get-get_or}
use Rattle.std.proofs.lemmas.List.{take_all}
use Rattle.std.specs.List.{fold}
use Rattle.matrix_play.specs.inner.MatrixPlays.{after_step, opening_matrix_play}
use Rattle.matrix_play.proofs.matrices.Plays.{term_begins, term_ready, term_step}
use Rattle.matrix_play.proofs.matrix_term.play_term.Goals as goal

pub loop-who-init : goal.loop-who-init
loop-who-init g c =
    rw (c.in_ok-play.ensures, c.as_slice-plans.ensures) (term_begins c.args.now c.args.opening c.args.term.now c.requires.term)

pub loop-who-preserved : goal.loop-who-preserved
loop-who-preserved g c =
    let steps : List ℕ = c.as_slice-who-items.result.now in
    let i : ℕ = c.loop-who.who-index in
    let who : ℕ = get_or steps i 0 in
    let lt : i < length steps = c.loop-who-test.true in
    let at : slice_get c.args.term.now.steps i ≡ Some who =
    ap (λ xs. slice_get xs i) (sym c.as_slice-who-items.ensures) ∙ slice_get-get_or steps i 0 lt in
    let e : c.step.new.self ≡ after_step c.args.term.now.plans c.loop-who.play who = rw c.as_slice-plans.ensures at c.in_ok-step.ensures in
    rw e (term_step c.args.now c.args.opening c.args.term.now i who c.loop-who.play c.requires.term c.requires.left at c.loop-who.invariant)

pub step-requires : goal.step-requires
step-requires g c =
    let steps : List ℕ = c.as_slice-who-items.result.now in
    let i : ℕ = c.loop-who.who-index in
    let who : ℕ = get_or steps i 0 in
    let lt : i < length steps = c.loop-who-test.true in
    let at : slice_get c.args.term.now.steps i ≡ Some who =
    ap (λ xs. slice_get xs i) (sym c.as_slice-who-items.ensures) ∙ slice_get-get_or steps i 0 lt in
    rw c.as_slice-plans.ensures (term_ready c.args.now c.args.opening c.args.term.now i who c.loop-who.play c.requires.term c.requires.left
    c.requires.room at c.loop-who.invariant)

pub returns : goal.returns
returns g c =
    let done : length c.args.term.now.steps ≤ c.loop-who.who-index = rw c.as_slice-who-items.ensures at c.loop-who-test.false in
    c.loop-who.invariant.is ∙ ap (fold (after_step c.args.term.now.plans) (opening_matrix_play (length c.args.term.now.plans)
    c.args.term.now.limit c.args.opening c.args.now)) (take_all c.loop-who.who-index c.args.term.now.steps done)
