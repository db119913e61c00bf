-- A record that wasn't met gets the next number.
use Rattle.std.proofs.Common.{◌++◌, ◌∷◌, [], ℕ, List, inr, refl, subst, sym}
use Rattle.history_core.proofs.Places.{get_last}
use Rattle.kept_lines.specs.declared.texts.Texts.{Texts}
use Rattle.kept_lines.specs.inner.Texts.{AreTexts}
use Rattle.kept_lines.proofs.DistinctLemmas.{distinct_more}
use Rattle.kept_lines.proofs.numbers.RecordNumbers.number.Goals as goal

pub returns-in_ok-make_room-in-None : goal.returns-in_ok-make_room-in-None
returns-in_ok-make_room-in-None c = λ records are.
    let text : List ℕ = c.args.text.now in
    let texts = c.in_ok-push-in-None.ensures records are.texts in
    let links = c.in_ok-enter-in-None.ensures records are.links in
    record {
      after = records ++ text ∷ [];
      meets = inr refl;
      at = get_last records text c.count-number.result (c.count-number.ensures records are.texts);
      numbered = record {
        distinct = distinct_more records text are.distinct (c.in-None.ensures.none records are.texts are.links);
        texts = subst (λ (t : Texts). AreTexts (records ++ text ∷ []) t) (sym c.in_ok-make_room-in-None.ensures.texts) texts;
        links = c.in_ok-make_room-in-None.ensures.links (records ++ text ∷ []) texts links;
      };
    }
