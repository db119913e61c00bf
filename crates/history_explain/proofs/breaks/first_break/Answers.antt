-- What is found on the slices is what is found on the lists that they show.
use Rattle.std.proofs.Common.{List, sym, subst, IsTrue}
use Rattle.history_core.specs.declared.history.Op.{Op}
use Rattle.history_core.specs.declared.history.Term.{Term}
use Rattle.history_core.specs.Orders.{IsVerdict}
use Rattle.history_explain.proofs.Verdicts.{IsFound}
use Rattle.history_explain.proofs.breaks.first_break.Goals as goal

pub breaking-requires : goal.breaking-requires
breaking-requires g c =
    let P : List Term → List (Op g.row.R.Denot) → Type 0 =
    λ terms ops.
    IsVerdict (λ x y. IsTrue (g.R.PartialEq.eq x y)) c.args.h.now.opening terms ops c.args.order.now c.check_order-verdict.result in
    subst (λ terms. P terms c.as_slice-2.result.now) (sym c.as_slice.ensures)
    (subst (λ ops. P c.args.h.now.terms ops) (sym c.as_slice-2.ensures) c.check_order-verdict.ensures)

pub returns : goal.returns
returns g c =
    let P : List Term → List (Op g.row.R.Denot) → Type 0 =
    λ terms ops. IsFound (λ x y. IsTrue (g.R.PartialEq.eq x y)) c.args.h.now.opening terms ops c.args.order.now c.breaking.result in
    let h = subst (λ terms. P terms c.args.h.now.ops) c.as_slice.ensures
    (subst (λ ops. P c.as_slice.result.now ops) c.as_slice-2.ensures (c.breaking.ensures.rule, c.breaking.ensures.first)) in
    record { rule = h.0; first = h.1 }
