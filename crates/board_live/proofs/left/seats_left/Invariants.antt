-- The seats of the last passes were taken out.
use Rattle.std.proofs.Common.{◌≡◌, ◌+◌, length}
use Rattle.board_live.proofs.Mapping.{MappedFrom}
use Rattle.board_live.proofs.left.seats_left.Given as goal

abbrev pub invariant-loop : goal.invariant-loop
invariant-loop g l =
    MappedFrom (λ p. p.seat) l.fn.passes.items l.passes.items l.seats.items
    × (length l.passes.items + l.counter ≡ length l.fn.passes.items)
