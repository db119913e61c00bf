-- The last places have their seats.
use Rattle.std.proofs.Common.{◌≡◌, ◌+◌, length}
use Rattle.c_boards.proofs.Pairing.{PairedFrom}
use Rattle.c_boards.proofs.posts.seats.Given as goal

abbrev pub invariant-loop : goal.invariant-loop
invariant-loop g l =
    PairedFrom (λ p s. s.place ≡ p) l.fn.places.items l.places.items l.seated.items
    × (length l.places.items + l.counter ≡ length l.fn.places.items)
