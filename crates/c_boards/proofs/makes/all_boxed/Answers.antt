-- The box of the last place stands before those that were made.
use Rattle.std.proofs.Common.{arith, ap, ◌∙◌, ◌≡◌, ◌+◌, ◌∷◌, [], length, length-append}
use Rattle.c_boards.proofs.Pairing.{paired_none, paired_more, paired_all}
use Rattle.c_boards.proofs.makes.all_boxed.Goals as goal

pub loop-init : goal.loop-init
loop-init g c = (rw c.in_ok-sides.ensures.items (paired_none _ c.args.places.items), omega arith)

pub loop-preserved : goal.loop-preserved
loop-preserved g c =
    let n : length c.loop.places.items ≡ length c.pop.new.self.items + 1 =
    ap length c.in-Some.ensures.items ∙ length-append c.pop.new.self.items (c.in-Some.place ∷ []) in (
      rw c.in_ok-push.ensures.items
          (paired_more _ c.args.places.items c.loop.places.items c.pop.new.self.items c.loop.sides.items c.in-Some.place _
          c.loop.invariant.0 c.in-Some.ensures.items c.in-Some-boxed_place.ensures),
      omega (arith, n, c.loop.invariant.1),
    )

pub returns : goal.returns
returns g c =
    let n : length c.loop.places.items ≡ 0 = omega (arith, c.loop.invariant.1) in
    rw c.reverse.ensures.items (paired_all _ c.args.places.items c.loop.places.items c.loop.sides.items c.loop.invariant.0 n)
