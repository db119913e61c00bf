-- One more group, and then none is left.
use Rattle.std.proofs.Common.{◌≡◌, ◌∙◌, ◌<◌, ◌≤◌, ◌+◌, ℕ, List, length, map, get_or, drop, slice_get, Option, None, ap, refl, sym}
use Rattle.std.proofs.Common.{suc, add-one, drop-cons, drop_of_length-le}
use Rattle.history_search.specs.declared.rank.Rank.{Rank}
use Rattle.history_search.specs.declared.span.Span.{Span}
use Rattle.history_search.specs.inner.Found.{cut_by}
use Rattle.history_search.specs.inner.Groups.{spans_in}
use Rattle.history_search.specs.inner.Ranks.{cut_after, rank_in}
use Rattle.history_search.proofs.cut.late_end.Goals as goal

module _ (spans : List Span) (rank : ℕ → Rank) (places : List ℕ) (i : ℕ) (all end : Option ℕ) where
  next : (g : ℕ) (span : Option Span) (new : Option ℕ) → i < length places → g ≡ (rank (get_or places i 0)).group → span ≡ slice_get spans g →
      new ≡ cut_after end g span → all ≡ cut_by spans end (map rank (drop i places)) →
      all ≡ cut_by spans new (map rank (drop (i + 1) places))
  next g span new l same there cut met =
      let left : ℕ → Option ℕ → Option ℕ = λ n z. cut_by spans z (map rank (drop n places)) in
      let after : Option ℕ = cut_after end (rank (get_or places i 0)).group (slice_get spans (rank (get_or places i 0)).group) in
      let is : new ≡ after =
      cut ∙ ap (cut_after end g) there ∙ ap (λ (z : ℕ). cut_after end z (slice_get spans z)) same in
      let opened : left i end ≡ left (suc i) after = ap (λ (z : List ℕ). cut_by spans end (map rank z)) (drop-cons places i 0 l) in
      met ∙ opened ∙ ap (λ (n : ℕ). left n after) (sym (add-one i)) ∙ ap (left (i + 1)) (sym is)

  done : length places ≤ i → all ≡ cut_by spans end (map rank (drop i places)) → end ≡ all
  done past met = sym (met ∙ ap (λ (z : List ℕ). cut_by spans end (map rank z)) (drop_of_length-le places past))

pub loop-place-init : goal.loop-place-init
loop-place-init g c = refl

pub loop-place-preserved : goal.loop-place-preserved
loop-place-preserved g c =
    let spans : List Span = spans_in c.args.ops.now c.args.spans.now in
    let rank : ℕ → Rank = rank_in c.args.ops.now c.args.groups.now spans None in
    next spans rank c.args.places.now c.loop-place.place-index (cut_by spans None (map rank c.args.places.now)) c.loop-place.end
    c.group_at-group.result c.span_at.result c.after-end.result c.loop-place-test.true c.group_at-group.ensures c.span_at.ensures
    c.after-end.ensures c.loop-place.invariant

pub returns : goal.returns
returns g c =
    let spans : List Span = spans_in c.args.ops.now c.args.spans.now in
    let rank : ℕ → Rank = rank_in c.args.ops.now c.args.groups.now spans None in
    done spans rank c.args.places.now c.loop-place.place-index (cut_by spans None (map rank c.args.places.now)) c.loop-place.end
    c.loop-place-test.false c.loop-place.invariant
