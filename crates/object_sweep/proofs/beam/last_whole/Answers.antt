-- The last one is taken, and the others are left.
use Rattle.std.proofs.Common.{length, inr, subst, sym, slice_get, List, Some, ◌≡◌}
use Rattle.object_sweep.specs.declared.front.Mark.{Mark}
use Rattle.object_sweep.proofs.Beams.{left_front, left_none}
use Rattle.object_sweep.proofs.Lists.{get_last}
use Rattle.object_sweep.proofs.beam.last_whole.Goals as goal

pub loop-mark-init : goal.loop-mark-init
loop-mark-init g c = left_none c.args.marks.items

pub returns-then-mark : goal.returns-then-mark
returns-then-mark g c =
    let P : List (Mark g.row.O.Denot) → Type 0 = λ z. slice_get z (length c.pop.new.self.items) ≡ Some c.in-Some.mark in (
      inr (
        length c.pop.new.self.items,
        c.loop-mark.invariant (length c.pop.new.self.items) c.in-Some.mark (subst P (sym c.in-Some.ensures.items)
            (get_last c.pop.new.self.items c.in-Some.mark)),
      ),
      c.if-mark.true,
    )

pub loop-mark-preserved : goal.loop-mark-preserved
loop-mark-preserved g c i mark at =
    c.loop-mark.invariant i mark (left_front c.loop-mark.marks.items c.pop.new.self.items c.in-Some.mark c.in-Some.ensures.items i mark at)
