-- What was taken was watched, a piece after the other.
use Rattle.std.proofs.Common.{◌≡◌}
use Rattle.fsr_watch_answers.specs.inner.Comings.{IsSoFar}
use Rattle.fsr_watch_answers.proofs.watch.watch_input.Given as goal

abbrev pub invariant-pieces : goal.invariant-pieces
invariant-pieces g l =
    IsSoFar (g.I.Source.remaining l.initial.input) (g.I.Source.remaining l.input) l.read l.bytes.items
    × (g.I.Source.failed l.input ≡ g.I.Source.failed l.initial.input)
