-- The opening is the one record that was met.
use Rattle.std.proofs.Common.{◌≡◌, ℕ, List, [], ◌∙◌, None, refl, string_bytes}
use Rattle.std.proofs.lemmas.Map.Text.{btree_map_updates_text}
use Rattle.kept_lines.proofs.NumberLemmas.{none_there}
use Rattle.exchanges_log.proofs.NumberingLemmas.{none_yet, one_longer, one_more}
use Rattle.exchanges_log.proofs.numbering.Numbering.new.Goals as goal

pub returns : goal.returns
returns c =
    let text : List ℕ = string_bytes c.args.opening in
    let none : c.in_ok-insert.field-0 ≡ None = c.in_ok-insert.ensures.old
    ∙ none_there c.new-numbers.result c.new-numbers.ensures.empty text in
    let more = one_more [] text 0 _ _ refl (none_yet c.new-numbers.result c.new-numbers.ensures.empty)
    (none_there c.new-numbers.result c.new-numbers.ensures.empty text)
    (btree_map_updates_text text c.new-numbers.result c.insert.new.self _ c.in_ok-insert.ensures.updates) in
    record {
      found = more.found;
      known = more.known;
      long = one_longer c.in_ok-insert.field-0 _ _ [] text none c.in_ok-insert.ensures.len c.new-numbers.ensures.len;
    }
