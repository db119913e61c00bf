-- After the last turn all rows are taken.
use Rattle.std.proofs.Common.{rules, ◌≡◌, ◌∙◌, ◌++◌, ◌∷◌, [], ap, sym, append-nil, append_assoc}
use Rattle.std.proofs.lemmas.Iterator.Adapters.{YieldsList-from_vec}
use Rattle.std.proofs.lemmas.Iterator.Consumers.{YieldsList-end}
use Rattle.composed_play.specs.inner.BoardPlays.{BoardPlaying}
use Rattle.matrix_core.proofs.lists.Elements.{map_same}
use Rattle.composed_play.proofs.board_term.BoardPlay.give.Goals as goal

pub loop-row-init : goal.loop-row-init
loop-row-init g c = sym (append-nil c.args.slots.now.items)

pub loop-row-preserved : goal.loop-row-preserved
loop-row-preserved g c =
    c.in_ok-push.ensures.items
    ∙ ap (λ x. c.loop-row.slots.items ++ x ∷ []) c.into_items.ensures
    ∙ ap (λ xs. xs ++ c.in-Some.row ∷ []) c.loop-row.invariant
    ∙ append_assoc c.args.slots.now.items c.loop-row.yielded (c.in-Some.row ∷ [])

pub returns-clause-slots : goal.returns-clause-slots
returns-clause-slots g c =
    let end = YieldsList-end (YieldsList-from_vec {s = c.into_iter-row-iterator.result} c.play.inside.slots.items
    c.into_iter-row-iterator.ensures.into_iter_gives.0 (c.into_iter-row-iterator.ensures.into_iter_gives.1 ∙ cc)) c.loop-row.yielded
    c.loop-row.row-iterator c.loop-row.yielded_by c.next.result c.next.new.self c.in-None.is c.next.ensures.steps in
    let all : c.loop-row.yielded ≡ c.play.inside.slots.items = sym (map_same c.loop-row.yielded) ∙ end.0 in
    c.loop-row.invariant
    ∙ ap (λ rows. c.args.slots.now.items ++ rows) all
    ∙ ap (λ (p : BoardPlaying g.row.R.Denot). c.args.slots.now.items ++ p.slots) c.play.view_is

pub returns-clause-ops : goal.returns-clause-ops
returns-clause-ops g c = search rules

pub returns-clause-stamps : goal.returns-clause-stamps
returns-clause-stamps g c = search rules
