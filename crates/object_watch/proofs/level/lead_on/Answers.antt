-- A pure operation is placed, or all is explored.
use Rattle.std.proofs.lemmas.Option.{slice_get_within}
use Rattle.object_watch.proofs.Growing.{led_by_all, led_by_pure, on_ok_both}
use Rattle.object_watch.proofs.level.lead_on.Goals as goal

pub returns-in-Some : goal.returns-in-Some
returns-in-Some g c =
    on_ok_both c.try_place.result (λ grown placed. led_by_pure g.O.Object.after c.args.end c.args.from.now.state c.args.from.now.rest.items
    c.args.seen.now.items c.try_place.new.seen.items c.args.place c.requires grown c.in-Some.pure c.in-Some.ensures placed)
    c.try_place.ensures.grown c.try_place.ensures.placed

pub returns-in-None : goal.returns-in-None
returns-in-None g c =
    on_ok_both c.explore.result (λ grown tried. led_by_all g.O.Object.after c.args.end c.args.from.now.state c.args.from.now.rest.items
    c.args.seen.now.items c.explore.new.seen.items c.args.place c.requires grown tried)
    c.explore.ensures.grown c.explore.ensures.tried

pub try_place-requires : goal.try_place-requires
try_place-requires g c = let o = c.in-Some.ensures in slice_get_within c.args.from.now.rest.items c.in-Some.pure o.0 o.1
