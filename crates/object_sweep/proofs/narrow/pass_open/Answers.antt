-- What is kept, in another sequence; whole, if all was explored.
use Rattle.object_sweep.proofs.Adding.{passed_in_order}
use Rattle.object_sweep.proofs.Reaching.{passed_open}
use Rattle.object_sweep.proofs.narrow.pass_open.Goals as goal

pub returns : goal.returns
returns g c =
    passed_in_order g.O.Object.after c.args.log.now c.args.under_way.now c.args.ending c.args.configurations.now
    c.close.new.sets.kept.items c.freest_first.result.items c.freest_first.ensures c.in_ok-whole.whole
    (passed_open g.O.Object.after c.args.log.now c.args.under_way.now c.args.ending c.args.most c.args.configurations.now
    c.in_ok-sets.sets.waiting.items c.in_ok-sets.sets.kept.items c.close.new.sets.waiting.items c.close.new.sets.kept.items
    c.in_ok-sets.ensures c.in_ok-whole.whole c.in_ok-whole.ensures)
