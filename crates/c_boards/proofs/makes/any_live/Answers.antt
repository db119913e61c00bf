-- One more handle without a side.
use Rattle.std.proofs.Common.{◌≡◌, length, rules, refl, arith}
use Rattle.std.proofs.lemmas.Option.{slice_get_read, slice_get_within}
use Rattle.c_boards.proofs.Putting.{none_more}
use Rattle.c_boards.proofs.makes.any_live.Goals as goal

pub loop-k-init : goal.loop-k-init
loop-k-init g c = λ j h lt at. absurd (omega (arith, lt))

pub loop-k-preserved : goal.loop-k-preserved
loop-k-preserved g c =
    none_more g.H.Hand.live g.H.Hand.side g.H.Hand.CODE c.args.handles.now c.loop-k.k c.index-handles-k.result c.loop-k.invariant
    c.loop-k-test.true c.index-handles-k.is (c.if-is_live.ensures.dead refl)

pub returns-then-is_live-clause-some : goal.returns-then-is_live-clause-some
returns-then-is_live-clause-some g c = λ _. (
  c.loop-k.k,
  c.index-handles-k.result,
  slice_get_read c.args.handles.now _ c.loop-k.k c.index-handles-k.result refl c.loop-k-test.true c.index-handles-k.is,
  c.if-is_live.ensures.live refl,
)

pub returns-clause-none : goal.returns-clause-none
returns-clause-none g c = λ e k h at. let n : c.loop-k.k ≡ length c.args.handles.now = search rules in
    c.loop-k.invariant k h (omega (arith, n, slice_get_within c.args.handles.now k h at)) at
