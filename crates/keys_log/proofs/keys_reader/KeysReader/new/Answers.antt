-- The first key has number 0, and its reader no line yet.
use Rattle.std.proofs.Common.{rules, ◌∙◌, ◌++◌, ◌∷◌, [], ℕ, List, ap, refl, subst, string_bytes}
use Rattle.std.specs.Prelude.{option_map}
use Rattle.read_line.specs.Lines.{head_seen}
use Rattle.kept_lines.specs.Numbered.{AreNumbered}
use Rattle.keys_log.specs.declared.key_reader.KeyReader.{KeyReader}
use Rattle.keys_log.proofs.KeyReadLemmas.{keys_none}
use Rattle.keys_log.proofs.keys_reader.KeysReader.new.Goals as goal

pub returns : goal.returns
returns c =
    record {
      read = keys_none (head_seen c.args.header) (option_map string_bytes c.args.key) c.in_ok-first.first _ refl
          (subst (λ (name : List ℕ). AreNumbered (name ∷ []) c.in_ok-numbering.numbering)
          (c.as_bytes.ensures.value ∙ c.in_ok-name.ensures) c.in_ok-numbering.ensures)
          (c.in_ok-push.ensures.items ∙ ap (λ (l : List KeyReader). l ++ c.in_ok-first.first ∷ []) {y = []} (search rules))
          c.in_ok-first.ensures refl;
    }
