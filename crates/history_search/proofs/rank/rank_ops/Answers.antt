-- One more place where the operation has a group that stands; the sort only moves them.
use Rattle.std.proofs.Common.{rules, ◌≡◌, ◌<◌, ◌≤◌, ◌∙◌, ℕ, Bool, List, Option, None, Some, length, get_or, slice_get, arith, ap, subst, sym}
use Rattle.std.proofs.lemmas.Fn.{always_returns_same}
use Rattle.std.proofs.lemmas.Option.{slice_get-get_or}
use Rattle.history_search.specs.declared.rank.Rank.{Rank}
use Rattle.history_search.specs.declared.span.Span.{Span}
use Rattle.history_search.specs.inner.Groups.{spans_in}
use Rattle.history_search.specs.inner.Ranks.{AreRanks, rank_in, ranks_in, stands_with}
use Rattle.history_search.proofs.Placed.{op_there, ranks_moved, ranks_next, ranks_same}
use Rattle.history_search.proofs.Sorted.{sorted_in_order}
use Rattle.history_search.proofs.rank.rank_ops.Goals as goal
use Rattle.history_search.proofs.rank.rank_ops.Goals.{then-group_stands+in_ok-push, else-group_stands}

-- what is said of the group that an operation has is said of what stands at its place
found : (says : Option (Option ℕ) → Bool) (groups : List (Option ℕ)) (n k : ℕ) (b : Bool) → n < k → length groups ≡ k →
    b ≡ says (Some (get_or groups n None)) → says (slice_get groups n) ≡ b
found says groups n k b l long e = ap says (slice_get-get_or groups n None (omega arith)) ∙ sym e

pub loop-place-preserved : goal.loop-place-preserved
loop-place-preserved g c =
    let says : Option (Option ℕ) → Bool = stands_with c.args.cut (spans_in c.args.ops.now c.args.spans.now) in
    elim c.if-group_stands.branch [
      | then-group_stands+in_ok-push w ↦
          let spans : List Span = spans_in c.args.ops.now c.args.spans.now in
          let o = op_there c.args.ops.now c.args.groups.now spans c.args.cut c.loop-place.place c.loop-place-test.true in
          rw (w.places-is, w.in_ok-push.ensures.items) (ranks_next c.args.ops.now c.args.groups.now spans c.args.cut c.loop-place.place
          c.loop-place.places.items o.0 o.1 (found says c.args.groups.now c.loop-place.place (length c.args.ops.now) _ c.loop-place-test.true c.requires w.if-group_stands.ensures) c.loop-place.invariant)
      | else-group_stands w ↦ rw w.places-is (ranks_same c.args.ops.now c.args.groups.now (spans_in c.args.ops.now c.args.spans.now) c.args.cut
          c.loop-place.place c.loop-place.places.items (found says c.args.groups.now c.loop-place.place (length c.args.ops.now) _ c.loop-place-test.true c.requires w.if-group_stands.ensures) c.loop-place.invariant)
    ]

pub returns : goal.returns
returns g c =
    let spans : List Span = spans_in c.args.ops.now c.args.spans.now in
    let done : length c.args.ops.now ≤ c.loop-place.place = c.loop-place-test.false in
    let same : c.loop-place.place ≡ length c.args.ops.now = let l = c.loop-place.auto.place-end in omega arith in
    let P : ℕ → Type 0 = λ z. AreRanks c.args.ops.now c.args.groups.now spans c.args.cut z
    (ranks_in c.args.ops.now c.args.groups.now spans c.args.cut c.loop-place.places.items) in
    let rank : ℕ → Rank = rank_in c.args.ops.now c.args.groups.now spans c.args.cut in
    record {
      are = ranks_moved c.args.ops.now c.args.groups.now spans c.args.cut (length c.args.ops.now) c.loop-place.places.items
          c.sort_unstable_by_key.new.self.items c.sort_unstable_by_key.ensures.permutation (subst P same c.loop-place.invariant);
      in_order = sorted_in_order rank c.sort_unstable_by_key.new.self.items (c.sort_unstable_by_key.ensures.sorted rank
          (always_returns_same _ _ _ (λ a r f h. search rules)));
    }
