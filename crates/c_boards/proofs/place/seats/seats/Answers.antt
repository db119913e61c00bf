-- The place of the last pass stands before those that were made.
use Rattle.std.proofs.Common.{arith, ap, ◌∙◌, ◌≡◌, ◌+◌, ◌∷◌, [], length, length-append}
use Rattle.c_boards.proofs.Pairing.{paired_none, paired_more, paired_all}
use Rattle.c_boards.proofs.place.seats.seats.Goals as goal

pub loop-init : goal.loop-init
loop-init g c = (rw c.in_ok-places.ensures.items (paired_none _ c.args.passes.items), omega arith)

pub loop-preserved : goal.loop-preserved
loop-preserved g c =
    let n : length c.loop.passes.items ≡ length c.pop.new.self.items + 1 =
    ap length c.in-Some.ensures.items ∙ length-append c.pop.new.self.items (c.in-Some.pass ∷ []) in (
      rw c.in_ok-push.ensures.items
          (paired_more _ c.args.passes.items c.loop.passes.items c.pop.new.self.items c.loop.places.items c.in-Some.pass _
          c.loop.invariant.0 c.in-Some.ensures.items c.in_ok-place.ensures),
      omega (arith, n, c.loop.invariant.1),
    )

pub returns : goal.returns
returns g c =
    let n : length c.loop.passes.items ≡ 0 = omega (arith, c.loop.invariant.1) in
    rw c.reverse.ensures.items (paired_all _ c.args.passes.items c.loop.passes.items c.loop.places.items c.loop.invariant.0 n)
