-- One more rank where the operation has to stand; the sort only moves them.
use Rattle.std.proofs.Common.{◌≡◌, ◌≤◌, ℕ, length, arith, subst}
use Rattle.history_coherence.specs.inner.Ranks.{AreRanksOf}
use Rattle.history_coherence.proofs.Sorted.{ranks_more, ranks_skip, ranks_sorted, ranks_start, sorted_in_order}
use Rattle.history_coherence.proofs.rank.rank_log.Goals as goal
use Rattle.history_coherence.proofs.rank.rank_log.Goals.{in-Some+in_ok-push-in-Some, in-None}

pub loop-place-init : goal.loop-place-init
loop-place-init c = rw c.new-ranks.ensures.items (ranks_start c.args.log.now c.args.keys.now c.args.marks.now)

pub loop-place-preserved : goal.loop-place-preserved
loop-place-preserved c = elim c.match-rank_at.branch [
  | in-Some+in_ok-push-in-Some w ↦ rw (w.ranks-is, w.in_ok-push-in-Some.ensures.items)
      (ranks_more c.args.log.now c.args.keys.now c.args.marks.now c.loop-place.place c.loop-place.ranks.items w.in-Some.rank
      w.in-Some.ensures.some w.in-Some.ensures.here c.loop-place.invariant)
  | in-None w ↦ rw w.ranks-is (ranks_skip c.args.log.now c.args.keys.now c.args.marks.now c.loop-place.place c.loop-place.ranks.items
      (c.requires c.loop-place.place) w.in-None.ensures.none c.loop-place.invariant)
]

pub returns-clause-are : goal.returns-clause-are
returns-clause-are c =
    let done : length c.args.log.now ≤ c.loop-place.place = c.loop-place-test.false in
    let same : c.loop-place.place ≡ length c.args.log.now = let l = c.loop-place.auto.place-end in omega arith in
    let P : ℕ → Type 0 = λ z. AreRanksOf c.args.log.now c.args.keys.now c.args.marks.now z c.loop-place.ranks.items in
    ranks_sorted c.args.log.now c.args.keys.now c.args.marks.now (length c.args.log.now) c.loop-place.ranks.items
    c.sort_unstable.new.self.items c.sort_unstable.ensures.permutation (subst P same c.loop-place.invariant)

pub returns-clause-in_order : goal.returns-clause-in_order
returns-clause-in_order c = sorted_in_order c.sort_unstable.new.self.items c.sort_unstable.ensures.sorted
