-- The run of a term over a matrix of atomic cells: each access is one step, at one position. A read of a cell has the
-- number of a write of it or of the opening, and from what it read each operation chooses; no loop and no state of a
-- matrix stands here. Accesses as intervals are those of L. Lamport, On Interprocess Communication, Parts I and II,
-- Distributed Computing 1, 1986; the rest is this project's own.
use Rattle.std.specs.Prelude.{◌≡◌, ◌≢◌, ℕ, List, slice_get, Option, None, Some}
use Rattle.history_core.specs.declared.history.Op.{Op}
use Rattle.history_core.specs.declared.history.Kind.TheVariants.{Write, Refused}
use Rattle.history_core.specs.Schedules.{IsOperation, Span}
use Rattle.matrix_core.specs.declared.stamp.Stamp.{Stamp}
use Rattle.matrix_core.specs.declared.stamp.Stamped.{Stamped}
use Rattle.matrix_core.specs.ByAccesses.{chooses_at, IsChosenBy}

-- `chosen i k` is the record that operation k of process i chose. An operation that hasn't chosen isn't refused, and
-- one that hasn't ended has no item unless it is a write
pub record IsMatrixRun {R : Type 0} (at : ℕ) (span : Span R) (opening : R) (ops : List (Op R))
    (stamps : List (Option Stamp))
    (chosen : ℕ → ℕ → Stamped R) : Type 0 where
  pub by : IsChosenBy at span 1 opening ops stamps chosen
  pub unchosen : (p k : ℕ) (op : Op R) → slice_get ops p ≡ Some op → IsOperation at span k op →
      chooses_at at span 1 op.who k ≡ None → op.kind ≢ Refused
  pub unfinished : (p : ℕ) (op : Op R) → slice_get ops p ≡ Some op → op.ends ≡ None → op.kind ≢ Write → op.item ≡ None
