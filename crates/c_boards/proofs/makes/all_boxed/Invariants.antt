-- The last places are in their boxes.
use Rattle.std.proofs.Common.{◌≡◌, ◌+◌, length}
use Rattle.c_boards.proofs.Pairing.{PairedFrom}
use Rattle.c_boards.proofs.makes.all_boxed.Given as goal

abbrev pub invariant-loop : goal.invariant-loop
invariant-loop g l =
    PairedFrom (λ s b. b.value ≡ g.D.Wraps.side s) l.fn.places.items l.places.items l.sides.items
    × (length l.places.items + l.counter ≡ length l.fn.places.items)
