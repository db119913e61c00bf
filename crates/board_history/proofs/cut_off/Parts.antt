-- An access of a call as far as it has come: made, under way, or not begun.
use Rattle.std.proofs.Common.{◌≡◌, ℕ, zero, suc, ◌+◌, ◌-◌, ◌*◌, ◌≤◌, List, [], ◌∷◌, ◌++◌, length, slice_get, None, Some}
use Rattle.std.proofs.Common.{refl, sym, ◌∙◌, ap, arith}
use Rattle.board_history.specs.Accesses.{IsInterval}
use Rattle.board_history.specs.CutOff.{if_there, IsPart}

beyond : (xs : List ℕ) (k : ℕ) → length xs ≤ k → slice_get xs k ≡ None
beyond [] k l = refl
beyond (x ∷ xs) zero l = absurd (omega arith)
beyond (x ∷ xs) (suc k) l = beyond xs k (omega arith)

nothing_more : (xs : List ℕ) → xs ≡ xs ++ []
nothing_more [] = refl
nothing_more (x ∷ xs) = ap (λ ys. x ∷ ys) (nothing_more xs)

module _ (width : ℕ) (steps : List ℕ) (access : ℕ) (begins ends begins' ends' : List ℕ) where
  pub part_made : IsInterval width steps access begins ends begins' ends' → IsPart width steps access begins ends begins' ends'
  part_made is = record {
    begun = is.begun ∙ ap (λ o. begins ++ if_there o) (sym is.first);
    ended = is.ended ∙ ap (λ o. ends ++ if_there o) (sym is.last);
  }

  pub part_begun : (t : ℕ) → slice_get steps (access * width) ≡ Some t → length steps ≤ access * width + (width - 1) →
      begins' ≡ begins ++ t ∷ [] → ends' ≡ ends → IsPart width steps access begins ends begins' ends'
  part_begun t at l b e = record {
    begun = b ∙ ap (λ o. begins ++ if_there o) (sym at);
    ended = e ∙ nothing_more ends ∙ ap (λ o. ends ++ if_there o) (sym (beyond steps (access * width + (width - 1)) l));
  }

  pub part_before : length steps ≤ access * width → begins' ≡ begins → ends' ≡ ends → IsPart width steps access begins ends begins' ends'
  part_before l b e = record {
    begun = b ∙ nothing_more begins ∙ ap (λ o. begins ++ if_there o) (sym (beyond steps (access * width) l));
    ended = e ∙ nothing_more ends
        ∙ ap (λ o. ends ++ if_there o) (sym (beyond steps (access * width + (width - 1)) (omega arith)));
  }
