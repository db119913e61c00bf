-- One more entry keeps or breaks the rule by its own kind and item alone.
use Rattle.std.proofs.Common.{ℕ, ◌+◌, Option, arith, ap, sym, subst, ◌∙◌}
use Rattle.history_explain.specs.Breaks.{IsLastWrite}
use Rattle.history_core.specs.Orders.{left_by}
use Rattle.history_core.proofs.Listed.{listed_read}
use Rattle.history_check.proofs.Forwards.{latest_step, reads_step, reads_all}
use Rattle.history_explain.proofs.Misread.{reading_at, write_more}
use Rattle.history_explain.proofs.breaks.reading.reading_break.Goals as goal

pub returns-in-Err-clause-some : goal.returns-in-Err-clause-some
returns-in-Err-clause-some g c =
    let at = listed_read c.args.ops.now c.args.order.now c.loop-entry.entry c.index-ops-place.result c.requires
    (omega arith) c.index-ops-place.is in
    reading_at _ _ _ _ _ _ _ _ _ at c.loop-entry.invariant.held c.loop-entry.invariant.reads
    c.loop-entry.invariant.last c.in-Err.ensures.wrong

pub loop-entry-preserved : goal.loop-entry-preserved
loop-entry-preserved g c =
    let at = listed_read c.args.ops.now c.args.order.now c.loop-entry.entry c.index-ops-place.result c.requires
    (omega arith) c.index-ops-place.is in
    let L : Option ℕ → Type 0 = λ z. IsLastWrite c.args.ops.now c.args.order.now (c.loop-entry.entry + 1) z in
    record {
      reads = reads_step _ _ _ _ _ _ _ at c.loop-entry.invariant.held c.in-Ok.ensures.right c.loop-entry.invariant.reads;
      held =
          latest_step c.args.opening c.args.ops.now c.args.order.now c.loop-entry.entry c.index-ops-place.result at
          ∙ ap (λ w. left_by w c.index-ops-place.result.kind c.index-ops-place.result.item) c.loop-entry.invariant.held
          ∙ c.in-Ok.ensures.latest;
      last = subst L (sym c.in-Ok.ensures.write) (write_more _ _ _ _ _ at c.loop-entry.invariant.last);
    }

pub returns-clause-none : goal.returns-clause-none
returns-clause-none g c = reads_all _ _ _ _ c.loop-entry.entry (omega arith) c.loop-entry.invariant.reads
