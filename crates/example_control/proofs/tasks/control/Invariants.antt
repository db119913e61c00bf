-- The reads so far, and the commands of each of them.
use Rattle.std.specs.Prelude.{List}
use Rattle.board_live.specs.Passes.{IsPass}
use Rattle.board_history.specs.BoardRuns.{Called}
use Rattle.example_control.specs.Turns.{Drives, HasReadInTurn, in_order}
use Rattle.example_control.specs.declared.control.Control.{Control}
use Rattle.example_control.proofs.tasks.control.Given as goal

abbrev pub invariant-loop : goal.invariant-loop
invariant-loop g l = record {
  of : IsPass g.F.Family in_order l.shared.board l.pass;
  calls : List (Called Control);
  reads : HasReadInTurn g.F.Family l.shared.board l.initial.pass calls l.pass;
  drives : Drives g.M.Motor.was_sent l.initial.motor calls l.motor;
}
