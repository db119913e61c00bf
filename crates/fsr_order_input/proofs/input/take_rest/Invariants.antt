-- Piece by piece, up to the end of the input or to too much white space.
use Rattle.std.proofs.Common.{◌≡◌, ◌-◌, ◌^◌, ◌++◌, ℕ, List, false}
use Rattle.std.specs.Io.KnownBytes.{Consumes, IsAtEnd}
use Rattle.text_lines.specs.Words.{text_in}
use Rattle.fsr_order_input.specs.inner.Inputs.{KeepsSpace}
use Rattle.fsr_order_input.proofs.input.take_rest.Given as goal

abbrev pub invariant-rest : goal.invariant-rest
invariant-rest g l =
    ((taken : List ℕ) × Consumes (g.I.Source.remaining l.initial.input) (g.I.Source.remaining l.input) taken
    × (text_in l.text ≡ text_in l.initial.text ++ taken))
    × (l.more ≡ false → IsAtEnd (g.I.Source.remaining l.input))
    × KeepsSpace (text_in l.initial.text) (text_in l.text)
    × (g.I.Source.failed l.input ≡ g.I.Source.failed l.initial.input)

abbrev pub decreases-rest : goal.decreases-rest
decreases-rest g l = 2 ^ 64 - l.pieces
