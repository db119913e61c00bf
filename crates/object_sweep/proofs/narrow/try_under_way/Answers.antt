-- It is under way, and so what it leads to is reached.
use Rattle.std.proofs.Common.{sym, ◌∙◌}
use Rattle.std.proofs.lemmas.Result.{on_ok_weaker}
use Rattle.object_sweep.specs.inner.Steps.{sure_at}
use Rattle.object_sweep.proofs.Reaching.{adds_under_way}
use Rattle.object_sweep.proofs.narrow.try_under_way.Goals as goal

pub returns : goal.returns
returns g c =
    on_ok_weaker c.try_place.result
    (adds_under_way g.O.Object.after c.args.log.now (sure_at c.args.log.now) c.args.under_way.now c.args.ending c.args.from.now.state
    c.args.from.now.placed.items c.args.place (sym c.is_in.ensures ∙ c.if-not-is_in.false) c.args.sets.now.waiting.items
    c.args.sets.now.kept.items c.try_place.new.sets.waiting.items c.try_place.new.sets.kept.items)
    c.try_place.ensures
