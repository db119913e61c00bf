-- Both tables are filled with one value each, so every cell and every own record is the opening.
use Rattle.std.proofs.Common.{refl}
use Rattle.std.proofs.lemmas.List.{length-replicate}
use Rattle.matrix_play.proofs.matrices.Shape.{opens}
use Rattle.matrix_play.proofs.matrix.MatrixCore.new.Goals as goal

pub invariant_of-result : goal.invariant_of-result
invariant_of-result g c = rw (c.in_ok-filled.ensures, c.in_ok-filled-2.ensures)
    (opens c.args.n c.args.limit c.args.opening c.requires.processes.0 c.requires.processes.1)

pub returns-clause-matrix : goal.returns-clause-matrix
returns-clause-matrix g c = rw (c.in_ok-filled.ensures, c.in_ok-filled-2.ensures) refl

pub returns-clause-size : goal.returns-clause-size
returns-clause-size g c = rw c.in_ok-filled-2.ensures (length-replicate c.args.n _)
