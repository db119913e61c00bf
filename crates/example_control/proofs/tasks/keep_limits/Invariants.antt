-- The turns so far.
use Rattle.std.specs.Prelude.{List}
use Rattle.board_live.specs.Passes.{IsPass}
use Rattle.board_history.specs.BoardRuns.{Called}
use Rattle.example_control.specs.Turns.{in_order, SetsLimits, Turns}
use Rattle.example_control.specs.declared.control.Control.{Control}
use Rattle.example_control.proofs.tasks.keep_limits.Given as goal

abbrev pub invariant-loop : goal.invariant-loop
invariant-loop g l = record {
  of : IsPass g.F.Family in_order l.shared.board l.pass;
  calls : List (Called Control);
  turns : Turns g.F.Family l.shared.board SetsLimits l.initial.pass calls l.pass;
}
