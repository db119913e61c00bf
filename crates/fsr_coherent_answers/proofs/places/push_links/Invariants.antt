-- Each turn adds the places of one link.
use Rattle.std.proofs.Common.{◌≡◌, ◌++◌, take}
use Rattle.std.specs.List.{flat_map}
use Rattle.fsr_coherent_answers.specs.CoherenceText.{places_of_link}
use Rattle.fsr_coherent_answers.proofs.places.push_links.Given as goal

abbrev pub invariant-loop-link : goal.invariant-loop-link
invariant-loop-link l = l.places.items ≡ l.initial.places.items ++ flat_map places_of_link (take l.link-index l.links)
