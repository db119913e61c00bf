-- The record was met before, or is the next one.
use Rattle.std.proofs.Common.{◌≡◌, ℕ, List, [], ◌∷◌, ◌++◌, inl, inr, None, refl, string_bytes, sym, ap, ◌∙◌, length, slice_get}
use Rattle.std.specs.BTreeMap.{get_by_text}
use Rattle.std.proofs.lemmas.Map.Text.{btree_map_updates_text}
use Rattle.kept_lines.proofs.NumberLemmas.{get_last}
use Rattle.exchanges_log.proofs.NumberingLemmas.{one_longer, one_more}
use Rattle.exchanges_log.proofs.numbering.Numbering.number.Goals as goal

pub returns-in-Some : goal.returns-in-Some
returns-in-Some c = λ records numbers. record {
  after = records;
  meets = inl refl;
  at = numbers.found (string_bytes c.args.text) c.in-Some.number
      (ap (get_by_text c.args.self.now.numbers) (sym c.as_str.ensures.value) ∙ sym c.known.ensures ∙ c.in-Some.is);
  numbers = numbers;
}

pub returns-in_ok-insert-in-None : goal.returns-in_ok-insert-in-None
returns-in_ok-insert-in-None c = λ records numbers.
    let text : List ℕ = string_bytes c.args.text in
    let none : get_by_text c.args.self.now.numbers text ≡ None =
    ap (get_by_text c.args.self.now.numbers) (sym c.as_str.ensures.value) ∙ sym c.known.ensures ∙ c.in-None.is in
    let next : c.len-number.result ≡ length records = c.len-number.ensures.len ∙ numbers.long in
    let more = one_more records text c.len-number.result (get_by_text c.args.self.now.numbers) _ next
    (record { found = numbers.found; known = numbers.known }) none
    (btree_map_updates_text text c.args.self.now.numbers c.insert.new.self _ c.in_ok-insert-in-None.ensures.updates) in
    record {
      after = records ++ text ∷ [];
      meets = inr refl;
      at = ap (λ (n : ℕ). slice_get (records ++ text ∷ []) n) next ∙ get_last records text;
      numbers = record {
        found = more.found;
        known = more.known;
        long = one_longer c.in_ok-insert-in-None.field-0 _ _ records text
            (c.in_ok-insert-in-None.ensures.old ∙ none) c.in_ok-insert-in-None.ensures.len numbers.long;
      };
    }
