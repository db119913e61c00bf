-- What this step says follows what the steps before said.
use Rattle.std.proofs.Common.{get_or, arith, sym, subst, ◌∙◌}
use Rattle.std.proofs.lemmas.List.{get_or_default}
use Rattle.four_slot_core.specs.declared.schedule.Turn.{Turn}
use Rattle.four_slot_core.specs.declared.schedule.Turn.TheVariants.{Writer}
use Rattle.four_slot_play.specs.inner.Parts.{IsOperationsOf}
use Rattle.four_slot_play.proofs.player.steps.Counts.{actors, actors_more, actors_long, IsMade, made_more, made_is, operations_more}
use Rattle.four_slot_play.proofs.player.steps.read_steps.Goals as goal

pub loop-position-preserved : goal.loop-position-preserved
loop-position-preserved c =
    let n = c.loop-position.position in
    let t : Turn = get_or c.args.steps.now n Writer in
    let e = actors_more n c.args.steps.now t (omega arith) (get_or_default c.args.steps.now n Writer t (omega arith)) in
    let all = c.in_ok-take.ensures in
    record {
      made = subst (λ done. IsMade done c.count.new.self) (sym e)
          (rw c.count.ensures (made_more (actors n c.args.steps.now) c.loop-position.made t c.loop-position.invariant.made));
      all = subst (λ done. IsOperationsOf done c.take.new.self.parts.items c.take.new.self.writer_ends.items
          c.take.new.self.reader_ends.items c.take.new.self.stores.items) (sym e)
          (rw (all.parts, all.writer_ends, all.reader_ends, all.stores) (operations_more t (actors n c.args.steps.now)
          c.loop-position.all.parts.items c.loop-position.all.writer_ends.items c.loop-position.all.reader_ends.items
          c.loop-position.all.stores.items c.by.result n (c.by.ensures ∙ made_is (actors n c.args.steps.now) c.loop-position.made t
          c.loop-position.invariant.made) (sym (actors_long n c.args.steps.now (omega arith))) c.loop-position.invariant.all));
    }
