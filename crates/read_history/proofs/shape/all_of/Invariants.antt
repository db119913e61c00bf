-- Each value passed had the shape, so what was read, put before what the rest gives, is what all values give.
use Rattle.std.proofs.Common.{◌≡◌, drop, map}
use Rattle.serde_json.specs.View.{view}
use Rattle.read_history.specs.Shapes.{all_of}
use Rattle.read_history.proofs.ListLemmas.{with_front}
use Rattle.read_history.proofs.shape.all_of.Given as goal

abbrev pub invariant-loop-item : goal.invariant-loop-item
invariant-loop-item g l =
    with_front l.found.items (all_of g.T.Shape.shape (map view (drop l.item-index l.values)))
    ≡ all_of g.T.Shape.shape (map view l.values)
