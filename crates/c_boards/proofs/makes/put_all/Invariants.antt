-- The last handles have their sides, and the others none.
use Rattle.std.proofs.Common.{◌≡◌, ◌+◌, length}
use Rattle.c_boards.proofs.Putting.{PutFrom}
use Rattle.c_boards.proofs.makes.put_all.Given as goal

abbrev pub invariant-loop : goal.invariant-loop
invariant-loop g l =
    PutFrom g.H.Hand.live g.H.Hand.side g.H.Hand.CODE l.fn.sides.items l.sides.items l.handles
    × (length l.sides.items + l.counter ≡ length l.fn.sides.items)
