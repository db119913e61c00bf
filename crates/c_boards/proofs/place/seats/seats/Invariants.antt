-- The last passes have their places.
use Rattle.std.proofs.Common.{◌≡◌, ◌+◌, length}
use Rattle.std.specs.Arc.{arc_value}
use Rattle.c_boards.proofs.Pairing.{PairedFrom}
use Rattle.c_boards.proofs.place.seats.seats.Given as goal

abbrev pub invariant-loop : goal.invariant-loop
invariant-loop g l =
    PairedFrom
    (λ p d. ((g.D.HasPlace.place d).pass.value ≡ p) × (arc_value (g.D.HasPlace.place d).board ≡ arc_value l.fn.board))
    l.fn.passes.items l.passes.items l.places.items
    × (length l.passes.items + l.counter ≡ length l.fn.passes.items)
