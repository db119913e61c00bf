-- The places so far.
use Rattle.std.proofs.Common.{◌≡◌, map, take}
use Rattle.reason_sentences.specs.Beside.{place_at}
use Rattle.print_reasons.proofs.text.places_of.Given as goal

abbrev pub invariant-loop-one : goal.invariant-loop-one
invariant-loop-one l = l.found.items ≡ map (place_at l.places) (take l.one-index l.kept)
