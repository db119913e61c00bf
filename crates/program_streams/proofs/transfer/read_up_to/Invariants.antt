-- Each piece follows those before it on the stream, and the room that is left shrinks by the piece.
use Rattle.std.proofs.Common.{◌≡◌, ◌-◌, ◌++◌, ◌≤◌, ℕ, List, length}
use Rattle.std.specs.Io.KnownBytes.{Consumes}
use Rattle.program_streams.proofs.transfer.read_up_to.Given as goal

abbrev pub invariant-input : goal.invariant-input
invariant-input g l =
    ((taken : List ℕ) × Consumes (g.I.Source.remaining l.initial.input) (g.I.Source.remaining l.input) taken
    × (l.bytes.items ≡ l.initial.bytes.items ++ taken))
    × (length l.initial.bytes.items ≤ l.most → length l.bytes.items ≤ l.most)
    × (g.I.Source.failed l.input ≡ g.I.Source.failed l.initial.input)

abbrev pub decreases-input : goal.decreases-input
decreases-input g l = l.most - length l.bytes.items
