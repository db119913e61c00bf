-- The next part is of the side, with the next number, or is left out.
use Rattle.std.proofs.Common.{get_or, arith}
use Rattle.std.proofs.lemmas.Option.{slice_get-get_or}
use Rattle.four_slot_core.specs.declared.schedule.Turn.TheVariants.{Writer}
use Rattle.four_slot_play.specs.declared.player.steps.Started.{Started}
use Rattle.four_slot_play.specs.inner.Parts.{started}
use Rattle.four_slot_play.proofs.player.order.Placing.{places_more, places_all}
use Rattle.four_slot_play.proofs.player.order.places.Goals as goal

pub loop-place-preserved : goal.loop-place-preserved
loop-place-preserved c =
    let n = c.loop-place.place in
    let first : Started = started Writer 0 0 in
    let part : Started = get_or c.args.parts.now n first in
    rw c.in_ok-note.ensures (places_more n c.args.side c.args.count c.args.parts.now c.loop-place.places.items part c.is_among.result
    c.requires (slice_get-get_or c.args.parts.now n first (omega arith)) c.is_among.ensures c.loop-place.invariant)

pub returns : goal.returns
returns c =
    places_all c.loop-place.place c.args.side c.args.count c.args.parts.now c.loop-place.places.items (omega arith) c.loop-place.invariant
