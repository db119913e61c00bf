-- A line that is put together from its end: what stands behind, what stands between, and what stands in front.
use Rattle.std.proofs.Common.{◌≡◌, ◌++◌, List, ℕ, codes, append_assoc, ap, sym, ◌∙◌}
use Rattle.history_core.specs.declared.reason.Reason.TheVariants.{Limit, Unwritten}
use Rattle.print_picture.specs.Picture.{both_words, name_of, pairs_words, reason_words}
use Rattle.picture_shapes.specs.Shapes.{name_text, unlawful_head, words_end}
use Rattle.picture_shapes.specs.declared.shape.headline.Name.{Name}

put_together : (front between after end old behind inner line : List ℕ) → behind ≡ after ++ end ++ old → inner ≡ between ++ behind
    → line ≡ front ++ inner → line ≡ front ++ between ++ after ++ end ++ old
put_together front between after end old behind inner line is_behind is_inner is_line =
    is_line ∙ ap (λ z. front ++ z) (is_inner ∙ ap (λ z. between ++ z) (is_behind ∙ append_assoc after end old))
    ∙ sym (append_assoc front between (after ++ (end ++ old))) ∙ sym (append_assoc (front ++ between) after (end ++ old))
    ∙ sym (append_assoc (front ++ between ++ after) end old)

pub pairs_line : (a b c d : Name) (old behind inner line : List ℕ)
    → behind ≡ codes ": each of two records has to stand before the other" ++ words_end ++ old
    → inner ≡ both_words a b c d ++ behind → line ≡ unlawful_head ++ codes "crossed: " ++ inner
    → line ≡ pairs_words a b c d ++ old
unfolding pairs_words
pairs_line a b c d old behind inner line is_behind is_inner is_line =
    put_together (unlawful_head ++ codes "crossed: ") (both_words a b c d)
    (codes ": each of two records has to stand before the other") words_end old behind inner line is_behind is_inner is_line

-- the line of one operation, by its name
module _ (lines : List ℕ) (place : ℕ) (name : Name) (old line : List ℕ) where
  pub unwritten_line : name ≡ name_of lines place
      → line ≡ unlawful_head ++ codes "unwritten: " ++ name_text name
      ++ codes " has a record that is neither the opening nor written" ++ words_end ++ old
      → line ≡ reason_words lines (Unwritten place) ++ old
  unfolding reason_words
  unwritten_line is is_line =
      is_line ∙ ap (λ z. unlawful_head ++ codes "unwritten: " ++ name_text z
      ++ codes " has a record that is neither the opening nor written" ++ words_end ++ old) is

  pub limit_line : name ≡ name_of lines place
      → line ≡ unlawful_head ++ codes "limit: in each order " ++ name_text name
      ++ codes ", or a refused one before it, has too few writes before it" ++ words_end ++ old
      → line ≡ reason_words lines (Limit place) ++ old
  unfolding reason_words
  limit_line is is_line =
      is_line ∙ ap (λ z. unlawful_head ++ codes "limit: in each order " ++ name_text z
      ++ codes ", or a refused one before it, has too few writes before it" ++ words_end ++ old) is
