-- The task has a clone of the shared board, and this pass.
use Rattle.std.proofs.Common.{◌∙◌, ap, subst, sym}
use Rattle.std.proofs.lemmas.Result.{IfOk-weaker}
use Rattle.std.specs.Arc.{arc_value}
use Rattle.board_live.specs.Passes.{IsPass}
use Rattle.example_control.specs.Turns.{in_order}
use Rattle.example_control.proofs.program.start_readings.Goals as goal

pub start-requires-after_bounds : goal.start-requires-after_bounds
start-requires-after_bounds g c κs within =
    subst (λ z. IsPass g.F.Family in_order z.board c.args.pass) (sym c.in_ok-try_clone.ensures) c.requires

pub returns-clause-board : goal.returns-clause-board
returns-clause-board g c =
    IfOk-weaker c.start.result _ _
    (λ h e. ap (λ z. z.board) (ap arc_value (ap (λ t. t.shared) e) ∙ c.in_ok-try_clone.ensures)) c.start.ensures

pub returns-clause-pass : goal.returns-clause-pass
returns-clause-pass g c = IfOk-weaker c.start.result _ _ (λ h e. ap (λ t. t.pass) e) c.start.ensures
