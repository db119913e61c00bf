-- The last side is in its handle.
use Rattle.std.proofs.Common.{arith, ap, sym, subst, ◌∙◌, ◌≡◌, ◌+◌, ◌∷◌, [], length, length-append, set}
use Rattle.c_boards.proofs.Putting.{PutFrom, put_none, put_next, put_more, put_all}
use Rattle.c_boards.proofs.makes.put_all.Goals as goal

pub loop-init : goal.loop-init
loop-init g c = (
  put_none g.H.Hand.live g.H.Hand.side g.H.Hand.CODE c.args.sides.items c.args.handles.now c.requires.none c.requires.counts,
  omega arith,
)

pub put-requires : goal.put-requires
put-requires g c =
    put_next g.H.Hand.live g.H.Hand.side g.H.Hand.CODE c.args.sides.items c.loop.sides.items c.pop.new.self.items
    c.loop.handles c.in-Some.side c.len-k.result c.index-handles-k.result
    c.loop.invariant.0 c.in-Some.ensures.items (c.len-k.ensures ∙ c.pop.new.self.ok.0) c.index-handles-k.is

pub loop-preserved : goal.loop-preserved
loop-preserved g c =
    let n : length c.loop.sides.items ≡ length c.pop.new.self.items + 1 =
    ap length c.in-Some.ensures.items ∙ length-append c.pop.new.self.items (c.in-Some.side ∷ []) in
    let k : c.len-k.result ≡ length c.pop.new.self.items = c.len-k.ensures ∙ c.pop.new.self.ok.0 in (
      subst (λ z. PutFrom g.H.Hand.live g.H.Hand.side g.H.Hand.CODE c.args.sides.items c.pop.new.self.items
          (set c.loop.handles z c.put.new.self)) (sym k)
          (put_more g.H.Hand.live g.H.Hand.side g.H.Hand.CODE c.args.sides.items c.loop.sides.items c.pop.new.self.items
          c.loop.handles c.in-Some.side c.put.new.self c.loop.invariant.0 c.in-Some.ensures.items (c.put.ensures.0, c.put.ensures.1)),
      omega (arith, n, c.loop.invariant.1),
    )

pub returns : goal.returns
returns g c =
    let left : length c.loop.sides.items ≡ 0 = omega (arith, c.loop.invariant.1, c.loop-test.false, c.requires.counts) in
    put_all g.H.Hand.live g.H.Hand.side g.H.Hand.CODE c.args.sides.items c.loop.sides.items c.loop.handles c.loop.invariant.0 left
