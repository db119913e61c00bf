-- An entry precedes one before it exactly where it ends before the latest beginning.
use Rattle.std.proofs.Common.{◌+◌, arith, sym, subst}
use Rattle.history_core.proofs.Listed.{listed_read}
use Rattle.history_explain.proofs.Overtaken.{IsLast, kept_all, last_more, last_none, none_more, overtaken_at}
use Rattle.history_explain.specs.declared.breaks.precedence.Begun.{Begun}
use Rattle.history_explain.proofs.breaks.precedence.overtaken.Goals as goal

pub loop-entry-init : goal.loop-entry-init
loop-entry-init g c = record { none = λ x y a b xy l. absurd (omega arith); last = last_none _ _ }

pub returns-then-is_before-clause-some : goal.returns-then-is_before-clause-some
returns-then-is_before-clause-some g c =
    let at = listed_read c.args.ops.now c.args.order.now c.loop-entry.entry c.index-ops-place.result c.requires
    (omega arith) c.index-ops-place.is in
    overtaken_at _ _ _ _ _ at c.loop-entry.invariant.last c.loop-entry.invariant.none (c.is_before.ensures.0 c.if-is_before.true)

pub loop-entry-preserved : goal.loop-entry-preserved
loop-entry-preserved g c =
    let at = listed_read c.args.ops.now c.args.order.now c.loop-entry.entry c.index-ops-place.result c.requires
    (omega arith) c.index-ops-place.is in
    record {
      none = none_more _ _ _ _ _ at c.loop-entry.invariant.last (λ before.
          let t = c.is_before.ensures.1 before in
          cc) c.loop-entry.invariant.none;
      last =
          let P : Begun → Type 0 = λ z. IsLast c.args.ops.now c.args.order.now (c.loop-entry.entry + 1) z in
          subst P (sym c.later-last.ensures) (last_more _ _ _ _ _ at c.loop-entry.invariant.last);
    }

pub returns-clause-none : goal.returns-clause-none
returns-clause-none g c = kept_all _ _ c.loop-entry.entry (omega arith) c.loop-entry.invariant.none
