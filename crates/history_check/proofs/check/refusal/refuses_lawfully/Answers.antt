-- A term's places are those from its first up to the least first of the terms after it.
use Rattle.std.proofs.Common.{◌≡◌, ◌-◌, get_or, arith, refl}
use Rattle.std.proofs.lemmas.List.{get_or_default}
use Rattle.history_core.specs.declared.history.Term.{Term}
use Rattle.history_check.proofs.Limits.{terms_start, terms_step, terms_broken}
use Rattle.history_check.proofs.check.refusal.refuses_lawfully.Goals as goal

pub loop-k-init : goal.loop-k-init
loop-k-init g c = terms_start _ _ _

pub returns-then-not-keeps_limit : goal.returns-then-not-keeps_limit
returns-then-not-keeps_limit g c =
    let t : Term = get_or c.args.terms.now (c.loop-k.k - 1) (record { first = 0; limit = 0 }) in
    let is : t ≡ get_or c.args.terms.now (c.loop-k.k - 1) t = get_or_default c.args.terms.now (c.loop-k.k - 1) _ _ (omega arith) in (
      λ h. cc,
      λ all.
          let kept = terms_broken c.args.terms.now c.args.ops.now c.args.order.now c.loop-k.k (c.loop-k.k - 1) c.loop-k.next t c.requires
          (omega arith) (omega arith) is c.loop-k.invariant all in
          let yes = c.keeps_limit.ensures.1 kept in cc,
    )

pub loop-k-preserved : goal.loop-k-preserved
loop-k-preserved g c =
    let t : Term = get_or c.args.terms.now (c.loop-k.k - 1) (record { first = 0; limit = 0 }) in
    let is : t ≡ get_or c.args.terms.now (c.loop-k.k - 1) t = get_or_default c.args.terms.now (c.loop-k.k - 1) _ _ (omega arith) in
    rw c.min-next.ensures
    (terms_step c.args.terms.now c.args.ops.now c.args.order.now c.loop-k.k (c.loop-k.k - 1) c.loop-k.next t c.requires (omega arith)
    (omega arith) is c.loop-k.invariant (c.keeps_limit.ensures.0 c.if-not-keeps_limit.false))

pub returns : goal.returns
returns g c = (λ t j u e. c.loop-k.invariant.kept j u (omega arith) e, λ all. refl)
