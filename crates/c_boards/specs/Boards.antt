-- What the calls do to a place at a board (this project's definitions).
use Rattle.std.specs.Prelude.{◌≡◌, ℕ, ◌≤◌, Bool, List, slice_get, Some, Ok}
use Rattle.cell_contract.specs.declared.family.Family.{Ghosts as FamilyWords}
use Rattle.history_core.specs.declared.history.Kind.TheVariants.{Read, Write, Refused}
use Rattle.matrix_core.specs.declared.stamp.Stamp.{Stamp}
use Rattle.matrix_core.specs.Stamps.{IsBelow, first_stamp}
use Rattle.board_live.specs.Deals.{IsNew}
use Rattle.board_live.specs.Passes.{ChoosesStamp, IsCall, IsKnown}
use Rattle.board_live.specs.SoFar.{HaveAtomicOrderSoFar}
use Rattle.board_live.specs.declared.board.Board.{Board}
use Rattle.board_live.specs.declared.board.Pass.{Pass}
use Rattle.board_live.specs.declared.record.Posted.{Posted}

-- the record with which a board opens
abbrev pub opens_with : {V : Type 0} → V → Posted V
opens_with v = record { stamp = first_stamp; item = v }

module _ {V F S T : Type 0} (words : FamilyWords F (Posted V) S T) (obeys : V → Bool) where
  -- a write that was done, of the place's board and pass before and after: one call of the board, which chose the
  -- record under the stamp. With its end all calls of all processes so far, ended or cut off, have one atomic
  -- order, and this one stands in it
  pub record HasPosted (b b' : Board V F S T) (p p' : Pass V F S T) (item : V) (s : Stamp) : Type 0 where
    pub same : b' ≡ b
    pub seen : Posted V
    pub call : IsCall words obeys b Write p p' seen
    pub chosen : ChoosesStamp b.limit p.process item seen p'.own (Ok s)
    pub raised : IsBelow p.own.stamp s
    pub so_far : HaveAtomicOrderSoFar words b p'

  -- a write where the tags have ended: one call of the board, which chose what it saw. All calls
  -- so far have an order as above
  pub record IsRefused (b b' : Board V F S T) (p p' : Pass V F S T) : Type 0 where
    pub same : b' ≡ b
    pub seen : Posted V
    pub call : IsCall words obeys b Refused p p' seen
    pub at_limit : b.limit ≤ seen.stamp.tag
    pub chosen : p'.own ≡ seen
    pub so_far : HaveAtomicOrderSoFar words b p'

  -- a read: one call of the board, which chose what it saw and answered it. It was written, or is the opening. All
  -- calls so far have an order as above
  pub record HasSeen (b b' : Board V F S T) (p p' : Pass V F S T) (answer : Posted V) : Type 0 where
    pub same : b' ≡ b
    pub call : IsCall words obeys b Read p p' answer
    pub known : IsKnown words b p p' answer
    pub chosen : p'.own ≡ answer
    pub so_far : HaveAtomicOrderSoFar words b p'

  -- these passes are those of a new board, which opened with the record, and each place has this board
  pub record IsBoardOf (n limit : ℕ) (first : V) (bs : List (Board V F S T)) (ps : List (Pass V F S T)) : Type 0 where
    pub board : Board V F S T
    pub new : IsNew words obeys n limit (opens_with first) board ps
    pub one : (k : ℕ) (b : Board V F S T) → slice_get bs k ≡ Some b → b ≡ board
