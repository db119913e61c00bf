-- The places so far.
use Rattle.std.proofs.Common.{◌≡◌, take}
use Rattle.print_keys.specs.KeysText.{whole_places}
use Rattle.print_keys.proofs.whole.whole_places.Given as goal

abbrev pub invariant-loop-place : goal.invariant-loop-place
invariant-loop-place l = l.whole.items ≡ whole_places l.places (take l.place-index l.own)
