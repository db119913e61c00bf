-- The greatest so far, with the lines that are left, gives the greatest of all lines.
use Rattle.std.proofs.Common.{◌≡◌, drop}
use Rattle.matrix_core.specs.Lines.{first_record}
use Rattle.matrix_core.specs.inner.Operations.{greatest_own}
use Rattle.matrix_core.proofs.progress.greatest_of.Given as goal

abbrev pub invariant-loop-line : goal.invariant-loop-line
invariant-loop-line g l = greatest_own l.greatest (drop l.line-index l.lines) ≡ greatest_own (first_record l.fn.opening) l.lines
