-- No key passed is missing, so the first missing key is the first among those that are left.
use Rattle.std.proofs.Common.{◌≡◌, drop}
use Rattle.std.specs.List.{find}
use Rattle.serde_json.specs.View.{view}
use Rattle.read_document.specs.Refusals.{is_missing}
use Rattle.read_document.proofs.fields.required.Given as goal

abbrev pub invariant-loop-key : goal.invariant-loop-key
invariant-loop-key l = find (is_missing (view l.value)) (drop l.key-index l.keys) ≡ find (is_missing (view l.value)) l.keys
