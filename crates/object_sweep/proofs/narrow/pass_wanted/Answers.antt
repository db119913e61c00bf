-- What is kept, in another sequence.
use Rattle.std.proofs.Common.{false}
use Rattle.object_sweep.proofs.Adding.{passed_in_order}
use Rattle.object_sweep.proofs.Reaching.{passed_wanted}
use Rattle.object_sweep.proofs.narrow.pass_wanted.Goals as goal

pub returns : goal.returns
returns g c =
    passed_in_order g.O.Object.after c.args.log.now c.args.under_way.now c.args.ending c.args.configurations.now
    c.close_wanted.new.sets.kept.items c.freest_first.result.items c.freest_first.ensures false
    (passed_wanted g.O.Object.after c.args.log.now c.args.under_way.now c.args.ending c.args.configurations.now
    c.in_ok-sets.sets.waiting.items c.in_ok-sets.sets.kept.items c.close_wanted.new.sets.waiting.items
    c.close_wanted.new.sets.kept.items c.in_ok-sets.ensures c.in_ok-close_wanted.ensures)
