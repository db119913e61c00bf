-- Each read follows the writes up to its number.
use Rattle.std.proofs.Common.{◌≡◌, ℕ, ◌+◌, ◌-◌, ◌≤◌, List, [], ◌∷◌, ◌++◌, length, take, drop, get_or, slice_get, Some, sym, subst, ◌∙◌, ap}
use Rattle.std.proofs.Common.{arith}
use Rattle.std.proofs.lemmas.Option.{slice_get-get_or, same_Some}
use Rattle.four_slot_play.specs.declared.player.run.Numbered.{Numbered}
use Rattle.four_slot_play.specs.inner.Weaves.{IsWeave}
use Rattle.four_slot_play.proofs.player.order.Weaving.{weave_start, weave_step, weave_rest}
use Rattle.four_slot_play.proofs.player.order.weave.Goals as goal

pub loop-number-init : goal.loop-number-init
loop-number-init g c = record {
  weave = subst (λ o. IsWeave c.args.writes.now c.args.reads.now c.args.answers.now 0 0 o) (sym c.new-order.ensures.items)
      (weave_start c.args.answers.now c.args.writes.now c.args.reads.now);
  low = λ k a l. absurd (omega arith);
  high = λ k a l e. omega arith;
  within = omega arith;
}

pub slice_bounds-extend_from_slice-count : goal.slice_bounds-extend_from_slice-count
slice_bounds-extend_from_slice-count g c =
    let n = c.loop-number.number in
    let same = c.requires.same in
    let a : Numbered g.row.R.Denot = get_or c.args.answers.now n c.index-answers-number.result in
    let at : slice_get c.args.answers.now n ≡ Some a = slice_get-get_or c.args.answers.now n c.index-answers-number.result (omega arith) in
    let high : c.loop-number.next ≤ a.number = c.loop-number.invariant.high n a (omega arith) at in
    omega arith

pub slice_bounds-extend_from_slice-start : goal.slice_bounds-extend_from_slice-start
slice_bounds-extend_from_slice-start g c =
    let n = c.loop-number.number in
    let same = c.requires.same in
    let a : Numbered g.row.R.Denot = get_or c.args.answers.now n c.index-answers-number.result in
    let at : slice_get c.args.answers.now n ≡ Some a = slice_get-get_or c.args.answers.now n c.index-answers-number.result (omega arith) in
    let high : c.loop-number.next ≤ a.number = c.loop-number.invariant.high n a (omega arith) at in
    omega arith

pub slice_bounds-extend_from_slice-end : goal.slice_bounds-extend_from_slice-end
slice_bounds-extend_from_slice-end g c =
    let n = c.loop-number.number in
    let same = c.requires.same in
    let a : Numbered g.row.R.Denot = get_or c.args.answers.now n c.index-answers-number.result in
    let at : slice_get c.args.answers.now n ≡ Some a = slice_get-get_or c.args.answers.now n c.index-answers-number.result (omega arith) in
    let small : a.number ≤ length c.args.writes.now = c.requires.below n a at in
    omega arith

pub loop-number-preserved : goal.loop-number-preserved
loop-number-preserved g c =
    let n = c.loop-number.number in
    let same = c.requires.same in
    let a : Numbered g.row.R.Denot = get_or c.args.answers.now n c.index-answers-number.result in
    let at : slice_get c.args.answers.now n ≡ Some a = slice_get-get_or c.args.answers.now n c.index-answers-number.result (omega arith) in
    let high : c.loop-number.next ≤ a.number = c.loop-number.invariant.high n a (omega arith) at in
    let small : a.number ≤ length c.args.writes.now = c.requires.below n a at in
    let p : ℕ = get_or c.args.reads.now n 0 in
    let order : List ℕ = c.loop-number.order.items in
    let step = weave_step c.args.answers.now c.args.writes.now c.args.reads.now c.loop-number.next n a.number p order high small
    (slice_get-get_or c.args.reads.now n 0 (omega arith)) c.loop-number.invariant.low
    (λ b e. let is : a ≡ b = same_Some a b (sym at ∙ e) in
    let q : a.number ≡ b.number = ap (λ (z : Numbered g.row.R.Denot). z.number) is in omega arith) c.loop-number.invariant.weave in
    let made : c.push.new.self.items ≡ (order ++ take (a.number - c.loop-number.next) (drop c.loop-number.next c.args.writes.now))
    ++ p ∷ [] = c.in_ok-push.ensures.items ∙ ap (λ o. o ++ p ∷ []) c.in_ok-extend_from_slice.ensures.items in
    record {
      weave = subst (λ o. IsWeave c.args.writes.now c.args.reads.now c.args.answers.now a.number (n + 1) o) (sym made) step;
      low = λ k b l e. c.requires.rising k n b a e at (omega arith);
      high = λ k b l e. c.requires.rising n k a b at e (omega arith);
      within = small;
    }

pub returns : goal.returns
returns g c =
    let order : List ℕ = c.loop-number.order.items in
    let rest = weave_rest c.args.answers.now c.args.writes.now c.args.reads.now c.loop-number.next c.loop-number.number order
    c.loop-number.invariant.within c.loop-number.invariant.low c.loop-number.invariant.weave in
    let all : c.loop-number.number ≡ length c.args.reads.now = omega arith in
    subst (λ o. IsWeave c.args.writes.now c.args.reads.now c.args.answers.now (length c.args.writes.now) (length c.args.reads.now) o)
    (sym c.in_ok-extend_from_slice-2.ensures.items)
    (subst (λ j. IsWeave c.args.writes.now c.args.reads.now c.args.answers.now (length c.args.writes.now) j
    (order ++ take (length c.args.writes.now - c.loop-number.next) (drop c.loop-number.next c.args.writes.now))) all rest)
