-- The lists of the term stand behind those of the terms before.
use Rattle.std.proofs.Common.{◌≡◌, ◌++◌, length, rules, ap, ◌∙◌}
use Rattle.std.proofs.lemmas.Result.{IfOk-weaker}
use Rattle.matrix_core.specs.inner.Operations.{one_term}
use Rattle.matrix_core.proofs.orders.Behind.{listed_behind}
use Rattle.composed_play.proofs.board_report.add_term.Goals as goal

pub returns-clause-order : goal.returns-clause-order
returns-clause-order g c =
    let ops : c.deref.result.now ≡ c.args.told.now.ops.items ++ c.args.play.ops = c.deref.ensures.value ∙ c.in_ok-give.ensures.ops in
    let stamps : c.deref-2.result.now ≡ c.args.told.now.stamps.items ++ c.args.play.stamps =
    c.deref-2.ensures.value ∙ c.in_ok-give.ensures.stamps in
    let place : c.len-first.result ≡ length c.args.told.now.ops.items = search rules in
    IfOk-weaker c.list_last_term.result _ _ (λ r h.
    let l = listed_behind c.args.told.now.ops.items c.args.play.ops c.deref.result.now c.args.told.now.stamps.items
    c.args.play.stamps c.deref-2.result.now c.len-first.result c.args.told.now.order.items c.list_last_term.new.order.items h.0 ops stamps
    place c.requires.told h.1 h.2 in
    (h.0, l.0, l.1)) c.list_last_term.ensures

pub returns-clause-terms : goal.returns-clause-terms
returns-clause-terms g c =
    let place : c.len-first.result ≡ length c.args.told.now.ops.items = search rules in
    IfOk-weaker c.list_last_term.result _ _
    (λ r h. c.in_ok-push.ensures.items ∙ ap (λ n. c.args.told.now.terms.items ++ one_term n c.args.limit) place) c.list_last_term.ensures

pub returns-clause-ops : goal.returns-clause-ops
returns-clause-ops g c = IfOk-weaker c.list_last_term.result _ _ (λ r h. c.in_ok-give.ensures.ops) c.list_last_term.ensures

pub returns-clause-stamps : goal.returns-clause-stamps
returns-clause-stamps g c = IfOk-weaker c.list_last_term.result _ _ (λ r h. c.in_ok-give.ensures.stamps) c.list_last_term.ensures

pub returns-clause-slots : goal.returns-clause-slots
returns-clause-slots g c = IfOk-weaker c.list_last_term.result _ _ (λ r h. c.in_ok-give.ensures.slots) c.list_last_term.ensures
