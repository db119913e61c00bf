-- Each key is searched in turn.
use Rattle.std.proofs.Common.{◌≡◌, ◌∙◌, ap, arith, length, refl, slice_get, subst, sym, ℕ, List, Some, ◌+◌}
use Rattle.std.proofs.lemmas.Option.{slice_get_read}
use Rattle.history_core.specs.declared.thinned.LogAnswer.{LogAnswer}
use Rattle.kept_lines.specs.declared.keys_log.KeyLog.{KeyLog}
use Rattle.fsr_keys_answers.specs.KeysAnswers.{HaveOrders}
use Rattle.fsr_keys_answers.proofs.KeysLemmas.{first_unlawful, lawful_else, orders_more}
use Rattle.fsr_keys_answers.proofs.keys_verdict.judge_keys.Goals as goal

pub loop-one-preserved : goal.loop-one-preserved
loop-one-preserved c = λ bytes is.
    let at : slice_get c.args.log.now.logs.items c.loop-one.one-index ≡ Some c.one-item.result =
    ap (λ (l : List KeyLog). slice_get l c.loop-one.one-index) (sym c.as_slice-one-items.ensures.value)
    ∙ slice_get_read c.as_slice-one-items.result.now _ c.loop-one.one-index c.one-item.result refl c.loop-one-test.true c.one-item.is in
    subst (λ (orders : List LogAnswer). HaveOrders is (c.loop-one.one-index + 1) orders) (sym c.in_ok-push.ensures.items)
    (orders_more is c.loop-one.one-index c.loop-one.orders.items c.one-item.result c.in_ok-found.found
    (c.loop-one.invariant bytes is) at c.in_ok-found.ensures (lawful_else c.in_ok-found.found c.in_default.not-Unlawful))

pub returns-in-Unlawful : goal.returns-in-Unlawful
returns-in-Unlawful c = λ bytes is.
    let at : slice_get c.args.log.now.logs.items c.loop-one.one-index ≡ Some c.one-item.result =
    ap (λ (l : List KeyLog). slice_get l c.loop-one.one-index) (sym c.as_slice-one-items.ensures.value)
    ∙ slice_get_read c.as_slice-one-items.result.now _ c.loop-one.one-index c.one-item.result refl c.loop-one-test.true c.one-item.is in
    first_unlawful is c.loop-one.one-index c.len-number.result c.loop-one.orders.items c.one-item.result c.in_ok-found.found
    c.in-Unlawful.reason c.in_ok-most.most (c.loop-one.invariant bytes is) (c.len-number.ensures ∙ c.loop-one.orders.ok.0)
    at c.in_ok-found.ensures c.in-Unlawful.is c.in_ok-most.ensures

pub returns : goal.returns
returns c = λ bytes is.
    let long : length c.as_slice-one-items.result.now ≡ length c.args.log.now.logs.items = ap length c.as_slice-one-items.ensures.value in
    let all : c.loop-one.one-index ≡ length c.args.log.now.logs.items =
    omega (arith, long, c.loop-one-test.false, c.loop-one.auto.one-index-end) in
    subst (λ (n : ℕ). HaveOrders is n c.loop-one.orders.items) all (c.loop-one.invariant bytes is)
