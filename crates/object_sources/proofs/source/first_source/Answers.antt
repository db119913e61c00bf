-- All places were seen.
use Rattle.std.proofs.Common.{◌≤◌, length, arith}
use Rattle.object_sources.proofs.Sourced.{of_all}
use Rattle.object_sources.proofs.source.first_source.Goals as goal

pub returns : goal.returns
returns c =
    let seen : c.loop-at.at ≤ length c.args.log.now = let l = c.loop-at.auto.at-end in omega arith in
    of_all c.args.log.now c.args.value c.loop-at.at c.loop-at.first (length c.args.log.now) c.loop-at-test.false seen c.loop-at.invariant
