-- One more text in the buffer.
use Rattle.std.proofs.Common.{◌≡◌, ℕ, ◌+◌, ◌-◌, ◌<◌, ◌≤◌, List, [], ◌∷◌, ◌++◌, length, take, drop, refl, sym, ◌∙◌, ap, subst, arith}
use Rattle.std.proofs.Common.{inl, inr, slice_get, Some, length-append, zero, suc}
use Rattle.std.proofs.lemmas.List.{drop-append-le, length-drop, take-append-le, take_all}
use Rattle.std.proofs.lemmas.Option.{same_Some, slice_get_within}
use Rattle.std.proofs.Math.Seq.{drop-append_seam}
use Rattle.history_core.proofs.Places.{get_before, get_last, get_pushed_cases}
use Rattle.kept_lines.specs.declared.texts.Texts.{Texts}
use Rattle.kept_lines.specs.inner.Texts.{AreTexts, StandsBetween}

-- what stands in a part stands there with more behind
stands_before : (text bytes more : List ℕ) (from to : ℕ) → StandsBetween text bytes from to → StandsBetween text (bytes ++ more) from to
stands_before text bytes more from to stands =
    let within : to ≤ length bytes = stands.within in
    let rises : from ≤ to = stands.rises in
    let left : length (drop from bytes) ≡ length bytes - from = length-drop from bytes in
    record {
      rises = rises;
      within = omega (arith, length-append bytes more);
      is = ap (take (to - from)) (drop-append-le from bytes more (omega arith))
          ∙ take-append-le (to - from) (drop from bytes) more (omega arith) ∙ stands.is;
    }

stands_last : (text bytes : List ℕ) (to : ℕ) → to ≡ length bytes + length text → StandsBetween text (bytes ++ text) (length bytes) to
stands_last text bytes to end = record {
  rises = omega arith;
  within = omega (arith, length-append bytes text);
  is = ap (take (to - length bytes)) (drop-append_seam bytes text) ∙ take_all (to - length bytes) text (omega arith);
}

module _ (texts : List (List ℕ)) (old new : Texts) (text : List ℕ) (are : AreTexts texts old)
    (bytes : new.bytes.items ≡ old.bytes.items ++ text)
    (bounds : new.bounds.items ≡ old.bounds.items ++ (length old.bytes.items + length text) ∷ []) where
  abbrev end : ℕ
  end = length old.bytes.items + length text

  each_of : (n from to : ℕ) (t : List ℕ) → slice_get (texts ++ text ∷ []) n ≡ Some t →
      slice_get (old.bounds.items ++ end ∷ []) n ≡ Some from → slice_get (old.bounds.items ++ end ∷ []) (n + 1) ≡ Some to →
      StandsBetween t (old.bytes.items ++ text) from to
  each_of n from to t at at_from at_to = elim (get_pushed_cases texts text n t at) [
    | inl here ↦
        let l : n < length texts = slice_get_within texts n t here in
        let from_old : slice_get old.bounds.items n ≡ Some from =
        sym (get_before old.bounds.items (end ∷ []) n (omega (arith, are.long))) ∙ at_from in
        let to_old : slice_get old.bounds.items (n + 1) ≡ Some to =
        sym (get_before old.bounds.items (end ∷ []) (n + 1) (omega (arith, are.long))) ∙ at_to in
        stands_before t old.bytes.items text from to (are.each n from to t here from_old to_old)
    | inr is ↦
        let place : n ≡ length texts = is.0 in
        let from_old : slice_get old.bounds.items n ≡ Some from =
        sym (get_before old.bounds.items (end ∷ []) n (omega (arith, are.long))) ∙ at_from in
        let from_is : length old.bytes.items ≡ from =
        same_Some (length old.bytes.items) from (sym are.last ∙ ap (slice_get old.bounds.items) (sym place) ∙ from_old) in
        let to_is : end ≡ to =
        same_Some end to (sym (get_last old.bounds.items end (n + 1) (omega (arith, are.long))) ∙ at_to) in
        let P : ℕ → Type 0 = λ z. StandsBetween t (old.bytes.items ++ text) z to in
        let Q : List ℕ → Type 0 = λ z. StandsBetween z (old.bytes.items ++ text) (length old.bytes.items) to in
        subst P from_is (subst Q is.1 (stands_last text old.bytes.items to (sym to_is)))
  ]

  pub texts_pushed : AreTexts (texts ++ text ∷ []) new
  texts_pushed =
      let B : List ℕ → Type 0 = λ bs. (n from to : ℕ) (t : List ℕ) → slice_get (texts ++ text ∷ []) n ≡ Some t →
      slice_get bs n ≡ Some from → slice_get bs (n + 1) ≡ Some to → StandsBetween t new.bytes.items from to in
      let E : List ℕ → Type 0 = λ z. (n from to : ℕ) (t : List ℕ) → slice_get (texts ++ text ∷ []) n ≡ Some t →
      slice_get (old.bounds.items ++ end ∷ []) n ≡ Some from → slice_get (old.bounds.items ++ end ∷ []) (n + 1) ≡ Some to →
      StandsBetween t z from to in
      let more : length (texts ++ text ∷ []) ≡ length texts + 1 = length-append texts (text ∷ []) in
      record {
        long = omega (arith, ap length bounds, length-append old.bounds.items (end ∷ []), are.long, more);
        last = ap (λ (l : List ℕ). slice_get l (length (texts ++ text ∷ []))) bounds
            ∙ get_last old.bounds.items end (length (texts ++ text ∷ [])) (omega (arith, are.long, more))
            ∙ ap Some (sym (ap length bytes ∙ length-append old.bytes.items text));
        each = subst B (sym bounds) (subst E (sym bytes) each_of);
      }

-- the text with a number stands between two bounds
pub text_there : (texts : List (List ℕ)) (store : Texts) (n from to : ℕ) → AreTexts texts store → n < length texts →
    slice_get store.bounds.items n ≡ Some from → slice_get store.bounds.items (n + 1) ≡ Some to →
    (text : List ℕ) × (slice_get texts n ≡ Some text) × StandsBetween text store.bytes.items from to
text_there texts store n from to are l at_from at_to = by (there texts n l)
  where
    there : (xs : List (List ℕ)) (k : ℕ) → k < length xs → (text : List ℕ) × (slice_get xs k ≡ Some text)
    there [] k l = absurd (omega arith)
    there (x ∷ xs) zero l = (x, refl)
    there (x ∷ xs) (suc k) l = there xs k (omega arith)

    by : (text : List ℕ) × (slice_get texts n ≡ Some text) →
        (text : List ℕ) × (slice_get texts n ≡ Some text) × StandsBetween text store.bytes.items from to
    by found = (found.0, found.1, are.each n from to found.0 found.1 at_from at_to)

pub texts_none : (store : Texts) → store.bytes.items ≡ [] → store.bounds.items ≡ 0 ∷ [] → AreTexts [] store
texts_none store bytes bounds = record {
  long = ap length bounds;
  last = ap (λ (l : List ℕ). slice_get l 0) bounds ∙ ap Some (sym (ap length bytes));
  each = λ n from to text at at_from at_to. cc;
}
