-- The verdict on the slices is that on the lists which they show.
use Rattle.std.proofs.Common.{List, subst}
use Rattle.std.specs.Prelude.{IsTrue}
use Rattle.history_core.specs.declared.history.Op.{Op}
use Rattle.history_core.specs.declared.history.Term.{Term}
use Rattle.history_core.specs.Orders.{IsVerdict}
use Rattle.history_check.proofs.check.check_order.Goals as goal

pub returns : goal.returns
returns g c =
    let P : List Term → List (Op g.row.R.Denot) → Type 0 =
    λ terms ops. IsVerdict (λ x y. IsTrue (g.R.PartialEq.eq x y)) c.args.h.now.opening terms ops c.args.order.now c.verdict.result in
    subst (λ terms. P terms c.args.h.now.ops) c.as_slice.ensures
    (subst (λ ops. P c.as_slice.result.now ops) c.as_slice-2.ensures c.verdict.ensures)
