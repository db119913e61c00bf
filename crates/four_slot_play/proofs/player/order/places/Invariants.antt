-- The places so far are those of the side's first operations among the parts passed.
use Rattle.four_slot_play.proofs.player.order.Placing.{IsPlacesBefore}
use Rattle.four_slot_play.proofs.player.order.places.Given as goal

abbrev pub invariant-loop-place : goal.invariant-loop-place
invariant-loop-place l = IsPlacesBefore l.place l.side l.count l.parts l.places.items
