-- A step has no operation left exactly where its side has made as many steps as its plan has.
use Rattle.std.proofs.Common.{length, get_or, arith, sym, subst, ◌∙◌, inl, inr}
use Rattle.std.proofs.Common.{below_more}
use Rattle.std.proofs.lemmas.Bool.{cases_lt}
use Rattle.std.proofs.lemmas.List.{get_or_default}
use Rattle.history_core.proofs.Overruns.{one_term_first_overrun, one_term_has_operations}
use Rattle.four_slot_core.specs.declared.schedule.Turn.{Turn}
use Rattle.four_slot_core.specs.declared.schedule.Turn.TheVariants.{Writer}
use Rattle.four_slot_core.specs.Play.{span_of}
use Rattle.four_slot_play.proofs.player.steps.Counts.{actors, actors_more, IsMade, made_more, made_is, overruns_at, left_at, none_past}
use Rattle.four_slot_play.proofs.player.steps.first_overrun.Goals as goal

pub returns-then-planned-by-clause-overrun : goal.returns-then-planned-by-clause-overrun
returns-then-planned-by-clause-overrun g c =
    let n = c.loop-position.position in
    let t : Turn = get_or c.args.steps.now n Writer in
    let count = c.by.ensures ∙ made_is (actors n c.args.steps.now) c.loop-position.made t c.loop-position.invariant.made in
    let less = c.if-planned-by.true in
    let plan = c.planned.ensures in
    one_term_first_overrun (span_of c.args.steps.now c.args.writes.now c.args.reads) n
    (overruns_at c.args.steps.now c.args.writes.now c.args.reads n t (omega arith)
    (get_or_default c.args.steps.now n Writer t (omega arith)) (rw (← count, ← plan) less))
    c.loop-position.invariant.none

pub loop-position-preserved : goal.loop-position-preserved
loop-position-preserved g c =
    let n = c.loop-position.position in
    let t : Turn = get_or c.args.steps.now n Writer in
    let at = get_or_default c.args.steps.now n Writer t (omega arith) in
    let e = actors_more n c.args.steps.now t (omega arith) at in
    let count = c.by.ensures ∙ made_is (actors n c.args.steps.now) c.loop-position.made t c.loop-position.invariant.made in
    let less = c.if-planned-by.false in
    let plan = c.planned.ensures in
    record {
      made = subst (λ done. IsMade done c.count.new.self) (sym e)
          (rw c.count.ensures (made_more (actors n c.args.steps.now) c.loop-position.made t c.loop-position.invariant.made));
      none = below_more _ _ c.loop-position.invariant.none
          (left_at c.args.steps.now c.args.writes.now c.args.reads n t (omega arith) at (rw (← count, ← plan) less));
    }

pub returns-clause-none : goal.returns-clause-none
returns-clause-none g c =
    one_term_has_operations (span_of c.args.steps.now c.args.writes.now c.args.reads) (λ p. elim (cases_lt p (length c.args.steps.now)) [
      | inl l ↦ c.loop-position.invariant.none p (omega arith)
      | inr le ↦ none_past c.args.steps.now c.args.writes.now c.args.reads p le
    ])
