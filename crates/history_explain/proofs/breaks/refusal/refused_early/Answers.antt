-- A term's places are those from its first up to the least first of the terms after it.
use Rattle.std.proofs.Common.{◌≡◌, ◌-◌, get_or, arith, IfNone, None, Some, Option, refl}
use Rattle.std.proofs.lemmas.List.{get_or_default}
use Rattle.history_explain.specs.declared.breaks.refusal.Early.{Early}
use Rattle.history_core.specs.declared.history.Term.{Term}
use Rattle.history_explain.proofs.Early.{nothing_searched, searched_more, searched_all}
use Rattle.history_explain.proofs.breaks.refusal.refused_early.Goals as goal

if_none : {P : Type 0} (found : Option Early) → (found ≡ None → P) → IfNone found P
if_none None h = h refl
if_none (Some e) h = tt

pub loop-k-init : goal.loop-k-init
loop-k-init g c = nothing_searched _ _ _

pub loop-k-preserved : goal.loop-k-preserved
loop-k-preserved g c =
    let t : Term = get_or c.args.terms.now (c.loop-k.k - 1) (record { first = 0; limit = 0 }) in
    let is : t ≡ get_or c.args.terms.now (c.loop-k.k - 1) t = get_or_default c.args.terms.now (c.loop-k.k - 1) _ _ (omega arith) in
    rw c.min-next.ensures
    (searched_more c.args.terms.now c.args.ops.now c.args.order.now c.loop-k.k (c.loop-k.k - 1) c.loop-k.next t c.loop-k.found _ c.requires
    (omega arith) (omega arith) is c.loop-k.invariant c.early_before-found.ensures.lawful c.early_before-found.ensures.early)

pub early_before-found-requires-clause-within : goal.early_before-found-requires-clause-within
early_before-found-requires-clause-within g c = c.loop-k.invariant.within

pub returns-clause-none : goal.returns-clause-none
returns-clause-none g c = if_none _ (searched_all _ _ _ _ _ _ (omega arith) c.loop-k.invariant).0

pub returns-clause-some : goal.returns-clause-some
returns-clause-some g c = (searched_all _ _ _ _ _ _ (omega arith) c.loop-k.invariant).1
