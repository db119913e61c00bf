-- Empty roles behind the others leave them as they were.
use Rattle.std.proofs.Common.{◌≤◌, length, arith}
use Rattle.history_thinning.specs.inner.Entering.{empty_roles}
use Rattle.history_thinning.proofs.Growing.{resized}
use Rattle.history_thinning.proofs.enter.make_room.Goals as goal

pub returns-in-Some-clause-grown : goal.returns-in-Some-clause-grown
returns-in-Some-clause-grown c =
    let within : length c.args.roles.now.items ≤ c.in-Some.count = omega arith in
    (resized empty_roles c.resize.result c.args.roles.now.items c.resize.new.self.items c.in-Some.count _ within c.resize.ensures.items).0

pub returns-in-Some-clause-failed : goal.returns-in-Some-clause-failed
returns-in-Some-clause-failed c =
    let within : length c.args.roles.now.items ≤ c.in-Some.count = omega arith in
    (resized empty_roles c.resize.result c.args.roles.now.items c.resize.new.self.items c.in-Some.count _ within c.resize.ensures.items).1
