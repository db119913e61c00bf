-- The passes of a board, of which one is used: they are the passes of the board still.
use Rattle.std.proofs.Common.{◌≡◌, Bool, ℕ, ◌+◌, ◌<◌, List, [], ◌∷◌, ◌++◌, length, length-append, set, get_or, refl, sym, ◌∙◌, ap, subst}
use Rattle.std.proofs.Common.{arith, inl, inr}
use Rattle.std.specs.Prelude.{slice_get, Some}
use Rattle.std.proofs.lemmas.List.{length-set}
use Rattle.std.proofs.lemmas.Option.{slice_get_read}
use Rattle.cell_contract.specs.declared.family.Family.{Ghosts as FamilyWords}
use Rattle.history_core.proofs.Places.{get_before, get_last}
use Rattle.matrix_core.proofs.lists.Elements.{get_set}
use Rattle.board_live.specs.declared.board.Board.{Board}
use Rattle.board_live.specs.declared.board.Pass.{Pass}
use Rattle.board_live.specs.declared.record.Posted.{Posted}
use Rattle.board_live.specs.Deals.{IsNew}
use Rattle.board_live.specs.Ends.{AllPasses}
use Rattle.board_live.specs.Passes.{IsPass}

module _ {V F S T : Type 0} (words : FamilyWords F (Posted V) S T) (obeys : V → Bool) (board : Board V F S T) where
  -- those of a new board
  pub all_new : (n limit : ℕ) (first : Posted V) (passes : List (Pass V F S T)) → IsNew words obeys n limit first board passes →
      AllPasses words obeys board passes
  all_new n limit first passes new = record {
    all = new.count.1 ∙ sym new.count.0;
    some = let l = new.size.0 in let e = new.count.1 in omega arith;
    each = λ i p at. let x = new.each i p at in (x.0, x.1);
  }

  -- what is read of passes that are so many stands there
  pub stood : (passes : List (Pass V F S T)) (n i : ℕ) (p : Pass V F S T) → n ≡ length passes → i < n → p ≡ get_or passes i p →
      AllPasses words obeys board passes → IsPass words obeys board p × (p.process ≡ i)
  stood passes n i p count l read all = all.each i p (slice_get_read passes n i p count l read)

  -- a pass that was read, and used
  pub used : (passes : List (Pass V F S T)) (n i : ℕ) (p q : Pass V F S T) → n ≡ length passes → i < n → p ≡ get_or passes i p →
      AllPasses words obeys board passes → IsPass words obeys board q → q.process ≡ p.process →
      AllPasses words obeys board (set passes i q) × (n ≡ length (set passes i q))
  used passes n i p q count l read all is same = (
    record {
      all = length-set passes i q ∙ all.all;
      some = let e = length-set passes i q in let s = all.some in omega arith;
      each = λ k r at. elim (get_set passes i k q r at) [
        | inl here ↦
            let place : q.process ≡ k = same ∙ (stood passes n i p count l read all).1 ∙ sym here.0 in
            subst (λ (z : Pass V F S T). IsPass words obeys board z × (z.process ≡ k)) (sym here.1) (is, place)
        | inr else ↦ all.each k r else.1
      ];
    },
    count ∙ sym (length-set passes i q),
  )

  -- the last two, taken out
  pub last_two : (passes left rest : List (Pass V F S T)) (p q : Pass V F S T) → passes ≡ left ++ q ∷ [] → left ≡ rest ++ p ∷ [] →
      AllPasses words obeys board passes → IsPass words obeys board p × IsPass words obeys board q
  last_two passes left rest p q e f all =
      let n : length left ≡ length rest + 1 = ap length f ∙ length-append rest (p ∷ []) in
      let at_p : slice_get passes (length rest) ≡ Some p = ap (λ ps. slice_get ps (length rest)) e
      ∙ get_before left (q ∷ []) (length rest) (omega arith) ∙ ap (λ ps. slice_get ps (length rest)) f
      ∙ get_last rest p (length rest) refl in
      let at_q : slice_get passes (length left) ≡ Some q = ap (λ ps. slice_get ps (length left)) e ∙ get_last left q (length left) refl in
      ((all.each (length rest) p at_p).0, (all.each (length left) q at_q).0)
