-- The text stands between two bounds.
use Rattle.std.proofs.Common.{◌≡◌, ◌+◌, ◌<◌, ◌≤◌, ◌∙◌, ℕ, List, length, ap, arith, get_or, refl, slice_get, Some, subst, sym}
use Rattle.std.specs.List.{slice_range}
use Rattle.std.proofs.lemmas.Option.{slice_get_read}
use Rattle.kept_lines.specs.declared.texts.Texts.{Texts}
use Rattle.kept_lines.specs.inner.Texts.{AreTexts, StandsBetween}
use Rattle.kept_lines.proofs.TextLemmas.{text_there}
use Rattle.kept_lines.proofs.texts.Texts.get.Goals as goal

found : (texts : List (List ℕ)) (store : Texts) (n from to : ℕ) → AreTexts texts store → n < length texts →
    from ≡ get_or store.bounds.items n from → to ≡ get_or store.bounds.items (n + 1) to →
    (text : List ℕ) × (slice_get texts n ≡ Some text) × StandsBetween text store.bytes.items from to
found texts store n from to are l is_from is_to =
    let bounds : List ℕ = store.bounds.items in
    text_there texts store n from to are l (slice_get_read bounds (length bounds) n from refl (omega (arith, are.long)) is_from)
    (slice_get_read bounds (length bounds) (n + 1) to refl (omega (arith, are.long)) is_to)

pub part-requires-clause-rises : goal.part-requires-clause-rises
part-requires-clause-rises c =
    (found c.requires.0 c.args.self.now c.args.number c.index-from.result.now c.index-to.result.now c.requires.1 c.requires.2
    c.index-from.ensures c.index-to.ensures).2.rises

pub part-requires-clause-within : goal.part-requires-clause-within
part-requires-clause-within c =
    subst (λ (bytes : List ℕ). c.index-to.result.now ≤ length bytes) (sym c.as_slice.ensures.value)
    (found c.requires.0 c.args.self.now c.args.number c.index-from.result.now c.index-to.result.now c.requires.1 c.requires.2
    c.index-from.ensures c.index-to.ensures).2.within

pub returns : goal.returns
returns c = λ texts are.
    let l : c.args.number < length texts = omega (arith, are.long, c.requires.1.long, c.requires.2) in
    let f = found texts c.args.self.now c.args.number c.index-from.result.now c.index-to.result.now are l
    c.index-from.ensures c.index-to.ensures in
    f.1 ∙ ap Some (sym (c.part.ensures
    ∙ ap (λ (bytes : List ℕ). slice_range bytes c.index-from.result.now c.index-to.result.now) c.as_slice.ensures.value ∙ f.2.is))
