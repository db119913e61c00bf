-- All records are placed, and the operations sorted by them.
use Rattle.std.proofs.Common.{◌≡◌, ℕ, List, length, map, Option, Some, ap, sym, subst, ◌∙◌}
use Rattle.history_coherence.specs.declared.rank.Rank.{Rank}
use Rattle.history_coherence.specs.declared.walk.Mark.{Mark}
use Rattle.history_coherence.specs.inner.Keys.{number_at}
use Rattle.history_coherence.specs.inner.Ranks.{AreRanksOf}
use Rattle.history_coherence.proofs.Edges.{if_none_of}
use Rattle.history_coherence.proofs.order.sort_log.Goals as goal

pub rank_log-requires : goal.rank_log-requires
rank_log-requires c p x e =
    let all = if_none_of c.in_ok-met.field-0 _ c.in_ok-met.ensures.placed c.in-None.is in
    let k : number_at c.args.tables.now.keys.items p ≡ Some x =
    ap (λ (z : List (Option ℕ)). number_at z p) (sym c.as_slice.ensures.value) ∙ e in
    rw c.as_slice-in-None.ensures.value (all.2 x (all.1.keyed p x k))

pub returns : goal.returns
returns c =
    let all = if_none_of c.in_ok-met.field-0 _ c.in_ok-met.ensures.placed c.in-None.is in
    let marks = c.place_all.new.walk.marks.items in
    let log = c.args.log.now in
    let ranks = c.in_ok-ranks-in-None.ranks.items in
    let P : List (Option ℕ) → List Mark → Type 0 = λ k m. AreRanksOf log k m (length log) ranks in
    let are = subst (λ k. P k marks) c.as_slice.ensures.value
    (subst (λ m. P c.as_slice.result.now m) c.as_slice-in-None.ensures.value c.in_ok-ranks-in-None.ensures.are) in (
      marks,
      c.place_all.new.walk.placed.items,
      all,
      (
        ranks,
        are,
        c.in_ok-ranks-in-None.ensures.in_order,
        c.in_ok-places-in-None.ensures ∙ ap (map (λ (r : Rank). r.place)) c.as_slice-in-None-2.ensures.value,
      ),
    )
