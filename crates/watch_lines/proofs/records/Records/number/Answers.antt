-- The record is kept, or gets the next number.
use Rattle.std.proofs.Common.{◌≡◌, ℕ, List, refl, sym, ap, arith, ◌∙◌, None, string_bytes}
use Rattle.std.specs.BTreeMap.{get_by_text}
use Rattle.std.proofs.lemmas.Map.Text.{btree_map_updates_text}
use Rattle.watch_lines.specs.Kept.{number_in}
use Rattle.watch_lines.specs.declared.records.Records.{Records}
use Rattle.watch_lines.proofs.NumberLemmas.{next_number}
use Rattle.watch_lines.proofs.records.Records.number.Goals as goal

pub returns : goal.returns
returns c =
    let text : List ℕ = string_bytes c.args.text in
    let new : Records = record {
      numbers = c.insert.new.self;
      next = c.in-Some-checked_add.next;
      most = c.args.self.now.most;
    } in
    let none : number_in c.args.self.now text ≡ None =
    ap (get_by_text c.args.self.now.numbers) (sym c.as_str.ensures.value) ∙ (sym c.known.ensures ∙ c.in_default.is) in
    next_number c.args.self.now new text none c.in-Some-checked_add.ensures.1
    (btree_map_updates_text text c.args.self.now.numbers c.insert.new.self _ c.in_ok-insert.ensures.updates)
    (record { more = (let len = c.in_ok-insert.ensures.len in omega (arith, len)); most = refl })
