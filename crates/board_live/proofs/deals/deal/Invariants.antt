-- The passes of the last seats were made.
use Rattle.std.proofs.Common.{◌≡◌, ◌+◌, ◌≤◌, [], length}
use Rattle.std.specs.Prelude.{vec_capacity}
use Rattle.board_live.proofs.Dealing.{DealtFrom}
use Rattle.board_live.proofs.deals.deal.Given as goal

abbrev pub invariant-loop : goal.invariant-loop
invariant-loop g l =
    DealtFrom l.n l.first l.initial.seats.items l.seats.items l.passes.items
    × (length l.seats.items + l.counter ≡ length l.initial.seats.items) × (length l.passes.items ≡ l.counter)
    × (vec_capacity l.passes ≡ vec_capacity l.initial.passes)
