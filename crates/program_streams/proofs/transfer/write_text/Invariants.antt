-- A front of the text has gone out, and what is left of it shrinks by each piece.
use Rattle.std.proofs.Common.{◌≡◌, ◌-◌, ◌≤◌, take, length}
use Rattle.std.specs.Io.KnownBytes.{Appends}
use Rattle.program_streams.proofs.transfer.write_text.Given as goal

abbrev pub invariant-pieces : goal.invariant-pieces
invariant-pieces g l =
    Appends (g.O.Sink.contents l.initial.out) (g.O.Sink.contents l.out) (take l.done l.text)
    × (g.O.Sink.failed l.out ≡ g.O.Sink.failed l.initial.out) × (l.done ≤ length l.text)

abbrev pub decreases-pieces : goal.decreases-pieces
decreases-pieces g l = length l.text - l.done
