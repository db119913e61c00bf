-- What stands before the place, and what stands behind it.
use Rattle.object_watch.proofs.Taking.{two_parts}
use Rattle.object_watch.proofs.level.removed.Goals as goal

pub returns : goal.returns
returns g c = rw (c.in_ok-extend_from_slice-2.ensures.items, c.in_ok-extend_from_slice.ensures.items, c.in_ok-left.ensures.items)
    (two_parts c.args.place c.args.rest.now c.requires)
