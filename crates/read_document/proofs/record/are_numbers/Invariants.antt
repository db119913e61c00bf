-- Those in front are whole, so all are if those are that are left.
use Rattle.std.proofs.Common.{◌≡◌, drop, map}
use Rattle.std.specs.List.{list_all}
use Rattle.serde_json.specs.View.{view}
use Rattle.read_document.specs.Records.{is_whole}
use Rattle.read_document.proofs.record.are_numbers.Given as goal

abbrev pub invariant-loop-item : goal.invariant-loop-item
invariant-loop-item l = list_all is_whole (map view (drop l.item-index l.items)) ≡ list_all is_whole (map view l.items)
