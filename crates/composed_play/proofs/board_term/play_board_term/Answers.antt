-- Each step of the loop is a step of the run.
use Rattle.std.proofs.Common.{◌≡◌, ◌<◌, ◌≤◌, ℕ, List, ap, sym, ◌∙◌, length, get_or}
use Rattle.std.specs.Prelude.{slice_get, Some}
use Rattle.std.proofs.lemmas.Option.{slice_get-get_or}
use Rattle.std.proofs.lemmas.List.{take_all}
use Rattle.std.specs.List.{fold}
use Rattle.composed_play.specs.inner.BoardPlays.{after_board_step, opening_board_play}
use Rattle.composed_play.proofs.boards.Terms.{term_begins, term_goes_on, term_ready}
use Rattle.composed_play.proofs.board_term.play_board_term.Goals as goal

pub loop-who-init : goal.loop-who-init
loop-who-init g c = rw (c.in_ok-play.ensures, c.as_slice-plans.ensures) (term_begins c.args.now c.args.opening c.args.noise c.args.term.now)

pub loop-who-preserved : goal.loop-who-preserved
loop-who-preserved g c =
    let steps : List ℕ = c.as_slice-who-items.result.now in
    let i : ℕ = c.loop-who.who-index in
    let who : ℕ = get_or steps i 0 in
    let lt : i < length steps = c.loop-who-test.true in
    let at : slice_get c.args.term.now.steps i ≡ Some who =
    ap (λ xs. slice_get xs i) (sym c.as_slice-who-items.ensures) ∙ slice_get-get_or steps i 0 lt in
    let e : c.step.new.self ≡ after_board_step c.args.term.now.plans c.loop-who.play who =
    rw c.as_slice-plans.ensures at c.in_ok-step.ensures in
    rw e (term_goes_on c.args.now c.args.opening c.args.noise c.args.term.now i who c.loop-who.play at c.loop-who.invariant)

pub step-requires : goal.step-requires
step-requires g c =
    let steps : List ℕ = c.as_slice-who-items.result.now in
    let i : ℕ = c.loop-who.who-index in
    let who : ℕ = get_or steps i 0 in
    let lt : i < length steps = c.loop-who-test.true in
    let at : slice_get c.args.term.now.steps i ≡ Some who =
    ap (λ xs. slice_get xs i) (sym c.as_slice-who-items.ensures) ∙ slice_get-get_or steps i 0 lt in
    rw c.as_slice-plans.ensures (term_ready c.args.now c.args.opening c.args.noise c.args.term.now i who c.loop-who.play c.requires.term
    c.requires.left c.requires.room at c.loop-who.invariant)

pub returns : goal.returns
returns g c =
    let done : length c.args.term.now.steps ≤ c.loop-who.who-index = rw c.as_slice-who-items.ensures at c.loop-who-test.false in
    c.loop-who.invariant.is ∙ ap (fold (after_board_step c.args.term.now.plans) (opening_board_play (length c.args.term.now.plans)
    c.args.term.now.limit c.args.opening c.args.noise c.args.now)) (take_all c.loop-who.who-index c.args.term.now.steps done)
