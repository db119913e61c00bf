-- The seats of the last passes were taken out.
use Rattle.std.proofs.Common.{◌≡◌, ◌+◌, ◌≤◌, length}
use Rattle.std.specs.Prelude.{vec_capacity}
use Rattle.board_live.proofs.Mapping.{MappedFrom}
use Rattle.board_live.proofs.ends.seats_of.Given as goal

abbrev pub invariant-loop : goal.invariant-loop
invariant-loop g l =
    MappedFrom (λ p. p.seat) l.fn.passes.items l.passes.items l.seats.items
    × (length l.passes.items + l.counter + 1 ≡ length l.fn.passes.items) × (length l.seats.items ≡ l.counter + 1)
    × (length l.fn.passes.items ≤ vec_capacity l.seats)
