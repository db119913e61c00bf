-- The lane that is taken out and those that are left have passes of the board.
use Rattle.history_core.specs.Band.{fits}
use Rattle.test_growths.proofs.Used.{taken_apart}
use Rattle.test_growths.proofs.lanes.usable_passes.Goals as goal

pub is_usable-requires : goal.is_usable-requires
is_usable-requires g c = (taken_apart g.F.Family fits _ c.loop.lanes.items c.pop.new.self.items c.in-Some.lane c.in-Some.ensures.items
    c.loop.invariant).0

pub loop-preserved : goal.loop-preserved
loop-preserved g c = (taken_apart g.F.Family fits _ c.loop.lanes.items c.pop.new.self.items c.in-Some.lane c.in-Some.ensures.items
    c.loop.invariant).1
