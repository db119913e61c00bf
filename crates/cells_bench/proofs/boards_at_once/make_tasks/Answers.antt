-- The last pass goes from the passes that are left to a task.
use Rattle.std.proofs.Common.{subst, sym, ◌++◌, ◌∷◌, [], All}
use Rattle.std.proofs.lemmas.List.{append-nil}
use Rattle.cell_contract.proofs.ListLaws.{all_snoc}
use Rattle.board_live.specs.Passes.{IsPass}
use Rattle.cells_bench.specs.Items.{no_law}
use Rattle.cells_bench.proofs.Fronts.{all_at, all_front}
use Rattle.cells_bench.proofs.boards_at_once.make_tasks.Goals as goal

pub loop-preserved : goal.loop-preserved
loop-preserved g c =
    let left = c.pop.new.self.items in
    let pass = c.in-Some.pass in
    let before : All (IsPass g.F.Family no_law c.args.board.now) (left ++ pass ∷ []) =
    subst (λ z. All (IsPass g.F.Family no_law c.args.board.now) z) c.in-Some.ensures.items c.loop.invariant.0 in (
      all_front (IsPass g.F.Family no_law c.args.board.now) left (pass ∷ []) before,
      rw c.in_ok-push.ensures.items
          (all_snoc (λ t. IsPass g.F.Family no_law t.value.board.now t.value.pass) c.loop.tasks.items c.new.result c.loop.invariant.1
          (rw c.new.ensures
          (all_at (IsPass g.F.Family no_law c.args.board.now) (left ++ pass ∷ []) left pass []
          (sym (append-nil (left ++ pass ∷ []))) before))),
    )
