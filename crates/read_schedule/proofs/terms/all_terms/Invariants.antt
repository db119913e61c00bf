-- Each value passed was a term, so the terms read, put before what the rest gives, are what all values give.
use Rattle.std.proofs.Common.{◌≡◌, drop, map}
use Rattle.serde_json.specs.View.{view}
use Rattle.read_history.specs.Shapes.{all_of}
use Rattle.read_history.proofs.ListLemmas.{with_front}
use Rattle.read_schedule.specs.Shapes.{as_term}
use Rattle.read_schedule.proofs.terms.all_terms.Given as goal

abbrev pub invariant-loop-item : goal.invariant-loop-item
invariant-loop-item l = with_front l.found.items (all_of as_term (map view (drop l.item-index l.values)))
    ≡ all_of as_term (map view l.values)
