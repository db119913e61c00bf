-- Two boards in turn, of which the second opens with the record that the first one gave: their calls are one history of
-- two terms. The second board's times count from 1 again, so they are put off, by as many steps as lie behind each
-- beginning of the first one's calls (this project's own).
use Rattle.std.specs.Prelude.{◌≡◌, ℕ, ◌+◌, List, [], ◌∷◌, ◌++◌, length, map, slice_get, Option, Some, None}
use Rattle.cell_contract.specs.declared.family.Family.{Ghosts as FamilyWords}
use Rattle.history_core.specs.declared.history.Op.{Op}
use Rattle.history_core.specs.Joined.{StaysBehind}
use Rattle.history_core.specs.Orders.{IsAtomicOrder, latest, RefusesLawfully}
use Rattle.board_history.specs.BoardRuns.{Called, Did}
use Rattle.board_live.specs.declared.board.Board.{Board}
use Rattle.board_live.specs.declared.record.Posted.{Posted}
use Rattle.board_live.specs.declared.board.Pass.{Pass}
use Rattle.board_live.specs.Ends.{did_by, IsAtomicRun}
use Rattle.board_live.specs.Passes.{HasMade}

-- an end, and an operation, so many steps later
abbrev pub end_later : ℕ → Option ℕ → Option ℕ
end_later steps None = None
end_later steps (Some end) = Some (end + steps)

abbrev pub op_later : {R : Type 0} → ℕ → Op R → Op R
op_later steps op = record op { starts = op.starts + steps; ends = end_later steps op.ends }

module _ {V F S T : Type 0} where
  -- *One history of two terms*: the calls of both boards, the second one's so many steps later, have an order that is
  -- atomic by their intervals and refuses lawfully by both limits; no call of the second precedes one of the first; in
  -- the end the register holds this record
  pub record IsTwoTerms (board next : Board V F S T) (ops later : List (Op V)) (last : Posted V) : Type 0 where
    pub steps : ℕ
    pub order : List ℕ
    pub behind : StaysBehind (map (op_later steps) later) ops
    pub atomic : IsAtomicOrder (λ x y. x ≡ y) board.first.item (ops ++ map (op_later steps) later) order
    pub lawful : RefusesLawfully
        (record { first = 0; limit = board.limit } ∷ record { first = length ops; limit = next.limit } ∷ [])
        (ops ++ map (op_later steps) later) order
    pub holds : latest board.first.item (ops ++ map (op_later steps) later) order ≡ Some last.item

  -- atomic runs of two boards, of which the second opens with the record of the first, are such a history
  abbrev pub TermsJoin : FamilyWords F (Posted V) S T → Type 0
  TermsJoin words = (board next : Board V F S T) (did those : ℕ → Did V) (last newest : Posted V) →
      (a : IsAtomicRun words board did last) →
      (b : IsAtomicRun words next those newest) → next.first.item ≡ last.item → IsTwoTerms board next a.ops b.ops newest

  -- whatever calls were made with the passes of the board, they are an atomic run, and with whatever atomic run of the
  -- next board it is one history of two terms
  abbrev pub GoesOn : FamilyWords F (Posted V) S T → Board V F S T → List (Pass V F S T) → Board V F S T → Type 0
  GoesOn words board passes next = (calls : ℕ → List (Called V)) →
      ((i : ℕ) (p : Pass V F S T) → slice_get passes i ≡ Some p → HasMade words board p (calls i)) →
      (last : Posted V) × (a : IsAtomicRun words board (did_by words passes calls) last)
      × ((those : ℕ → Did V) (newest : Posted V) (b : IsAtomicRun words next those newest) →
      IsTwoTerms board next a.ops b.ops newest)
