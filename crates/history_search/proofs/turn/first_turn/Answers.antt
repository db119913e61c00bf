-- A rank that begins no later than the last begun stands no less against precedence.
use Rattle.std.proofs.Common.{◌≡◌, ◌<◌, ◌≤◌, ◌+◌, List, arith, length, false, true, refl, sym, subst, None}
use Rattle.history_search.specs.declared.rank.Rank.{Rank}
use Rattle.history_search.specs.declared.span.Span.{Span}
use Rattle.history_search.specs.inner.Groups.{spans_in}
use Rattle.history_search.specs.inner.Ranks.{ranks_in}
use Rattle.history_search.proofs.Loops.{IsLast, last_more, last_start}
use Rattle.history_search.proofs.Placed.{rank_there}
use Rattle.history_search.proofs.turn.first_turn.Goals as goal

pub loop-i-init : goal.loop-i-init
loop-i-init g c =
    let l : 0 < length c.args.places.now = let e = c.if-places-eq0.false in omega arith in
    let spans : List Span = spans_in c.args.ops.now c.args.spans.now in
    last_start c.args.ops.now (ranks_in c.args.ops.now c.args.groups.now spans None c.args.places.now) c.rank_at-last.result
    (rank_there c.args.ops.now c.args.groups.now spans None c.args.places.now 0 c.rank_at-last.result l c.rank_at-last.ensures)

pub returns-then-is_turned-clause-some : goal.returns-then-is_turned-clause-some
returns-then-is_turned-clause-some g c =
    let spans : List Span = spans_in c.args.ops.now c.args.spans.now in (
      c.loop-i.invariant.k,
      c.loop-i.i,
      c.loop-i.invariant.near,
      c.loop-i.invariant.at,
      rank_there c.args.ops.now c.args.groups.now spans None c.args.places.now c.loop-i.i c.rank_at-rank.result c.loop-i-test.true
          c.rank_at-rank.ensures,
      c.if-is_turned.ensures.0 refl,
    )

pub loop-i-preserved : goal.loop-i-preserved
loop-i-preserved g c =
    let spans : List Span = spans_in c.args.ops.now c.args.spans.now in
    let ranks : List Rank = ranks_in c.args.ops.now c.args.groups.now spans None c.args.places.now in
    let P : Rank → Type 0 = λ z. IsLast c.args.ops.now ranks (c.loop-i.i + 1) z in
    subst P (sym c.later-last.ensures) (last_more c.args.ops.now ranks c.loop-i.i c.loop-i.last c.rank_at-rank.result
    (rank_there c.args.ops.now c.args.groups.now spans None c.args.places.now c.loop-i.i c.rank_at-rank.result c.loop-i-test.true
    c.rank_at-rank.ensures) (λ t. let z : false ≡ true = c.if-is_turned.ensures.1 t in cc) c.loop-i.invariant)

pub returns-clause-none : goal.returns-clause-none
returns-clause-none g c = λ i j x y ij jn e f.
    let l : length c.args.places.now ≤ c.loop-i.i = c.loop-i-test.false in
    c.loop-i.invariant.none i j x y ij (omega arith) e f
