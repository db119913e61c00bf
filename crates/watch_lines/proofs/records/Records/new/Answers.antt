-- The opening alone is kept.
use Rattle.std.proofs.Common.{ℕ, List, refl, string_bytes}
use Rattle.std.proofs.lemmas.Map.Text.{btree_map_updates_text}
use Rattle.kept_lines.proofs.NumberLemmas.{none_there}
use Rattle.watch_lines.specs.declared.records.Records.{Records}
use Rattle.watch_lines.proofs.NumberLemmas.{alone}
use Rattle.watch_lines.proofs.records.Records.new.Goals as goal

pub returns : goal.returns
returns c =
    let opening : List ℕ = string_bytes c.args.opening in
    let before : Records = record { numbers = c.new-numbers.result; next = 0; most = 0 } in
    let kept : Records = record { numbers = c.insert.new.self; next = 1; most = 16 } in
    alone opening before kept (none_there c.new-numbers.result c.new-numbers.ensures.empty)
    (btree_map_updates_text opening c.new-numbers.result c.insert.new.self _ c.in_ok-insert.ensures.updates) refl
