-- The places of a new board, from its passes.
use Rattle.std.proofs.Common.{◌≡◌, ℕ, List, length, map, sym, ◌∙◌, subst}
use Rattle.std.specs.Prelude.{Bool, slice_get, Some}
use Rattle.cell_contract.specs.declared.family.Family.{Ghosts as FamilyWords}
use Rattle.board_live.specs.Deals.{IsNew}
use Rattle.board_live.specs.Passes.{IsPass}
use Rattle.board_live.specs.declared.board.Board.{Board}
use Rattle.board_live.specs.declared.board.Pass.{Pass}
use Rattle.board_live.specs.declared.record.Posted.{Posted}
use Rattle.c_boards.specs.Boards.{IsBoardOf, opens_with}
use Rattle.c_boards.specs.Opens.{Pairs, MayHave, MayEnd}
use Rattle.c_boards.proofs.Pairing.{paired_length, paired_mapped, paired_all_of, paired_back}

module _ {V F S T : Type 0} (words : FamilyWords F (Posted V) S T) (obeys : V → Bool) {P : Type 0}
    (board_of : P → Board V F S T) (pass_of : P → Pass V F S T) where
  abbrev AreOf : Board V F S T → List (Pass V F S T) → List P → Type 0
  AreOf board ps ss = Pairs (λ p s. (pass_of s ≡ p) × (board_of s ≡ board)) ps ss

  pub opened : (n limit : ℕ) (first : V) (board : Board V F S T) (ps : List (Pass V F S T)) (ss : List P)
      → IsNew words obeys n limit (opens_with first) board ps → AreOf board ps ss
      → IsBoardOf words obeys n limit first (map board_of ss) (map pass_of ss) × (length ss ≡ n) × MayHave n × MayEnd limit
  opened n limit first board ps ss new pairs = (
    record {
      board = board;
      new = subst (IsNew words obeys n limit (opens_with first) board) (sym (paired_mapped _ pass_of ps ss (λ x y r. r.0) pairs)) new;
      one = λ k b at. paired_all_of _ board_of board ps ss (λ x y r. r.1) pairs k b at;
    },
    sym (paired_length _ ps ss pairs) ∙ new.count.1,
    new.size,
    new.within,
  )

  -- each place's pass is its board's
  pub own : (n limit : ℕ) (first : V) (board : Board V F S T) (ps : List (Pass V F S T)) (ss : List P)
      → IsNew words obeys n limit (opens_with first) board ps → AreOf board ps ss
      → (k : ℕ) (s : P) → slice_get ss k ≡ Some s → IsPass words obeys (board_of s) (pass_of s)
  own n limit first board ps ss new pairs k s at =
      let back = paired_back _ ps ss k s pairs at in
      let is = (new.each k back.0 back.1).0 in
      subst (λ b. IsPass words obeys b (pass_of s)) (sym back.2.1) (subst (IsPass words obeys board) (sym back.2.0) is)
