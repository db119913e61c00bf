-- What a running board promises of all its calls, in one place (atomic orders are L. Lamport's, On Interprocess
-- Communication, Parts I and II, Distributed Computing 1, 1986).
use Rattle.std.specs.Prelude.{◌≡◌, ◌<◌, ◌≤◌, List, [], ◌∷◌, ◌++◌, map, Result}
use Rattle.history_core.specs.declared.history.Kind.{Kind}
use Rattle.history_core.specs.declared.history.Kind.TheVariants.{Read}
use Rattle.matrix_core.specs.declared.stamp.Stamp.{Stamp}
use Rattle.cell_contract.specs.declared.family.Family.{Ghosts as FamilyWords}
use Rattle.board_history.specs.BoardRuns.{Called}
use Rattle.board_live.specs.declared.board.Board.{Board}
use Rattle.board_live.specs.declared.board.Pass.{Pass}
use Rattle.board_live.specs.declared.board.Refused.{Refused}
use Rattle.board_live.specs.declared.record.Posted.{Posted}
use Rattle.board_live.specs.Ends.{AllAtomic, HaveAtomicOrder, IsGreatest, standing}
use Rattle.board_live.specs.Passes.{ChoosesStamp, HasMade, kind_of}
use Rattle.board_live.specs.Records.{stamped}
use Rattle.board_live.specs.SoFar.{HaveAtomicOrderSoFar}

module _ {V F S T : Type 0} (words : FamilyWords F (Posted V) S T) (board : Board V F S T) where
  -- *A call more*, of this kind, that saw a record and chose one: it began after all that its process
  -- knew of. When it ends, it and all calls of all processes so far, ended or cut off, have one atomic
  -- order, whatever the others do then
  pub record AddsCall (kind : Kind) (old new : Pass V F S T) (seen chosen : Posted V) : Type 0 where
    pub call : Called V
    pub is : (call.kind ≡ kind) × (call.seen ≡ stamped seen) × (call.chosen ≡ stamped chosen)
    pub timed : (words.clock old.seat < call.begin) × (call.begin ≤ call.end)
    pub made : (calls : List (Called V)) → HasMade words board old calls → HasMade words board new (calls ++ call ∷ [])
    pub atomic : HaveAtomicOrderSoFar words board new

  -- *The theorem of a board*, of a read and a write by the last process, with passes that had made any calls before
  pub record BoardTheorem (passes : List (Pass V F S T)) (item : V) (read : Posted V)
      (wrote : Result Stamp (Refused V)) : Type 0 where
    -- the process's pass before, between and after its calls, and the others'
    pub pass : Pass V F S T
    pub between : Pass V F S T
    pub after : Pass V F S T
    pub others : List (Pass V F S T)
    pub taken : passes ≡ others ++ pass ∷ []
    -- the read chooses the record that it gives, and the write chooses the item with the next
    -- stamp, or is refused at the limit
    pub reads : AddsCall Read pass between read read
    pub seen : Posted V
    pub chosen : Posted V
    pub writes : AddsCall (kind_of wrote) between after seen chosen
    pub chooses : ChoosesStamp board.limit pass.process item seen chosen wrote

  -- what is shown of all passes at once: the greatest of their records, the calls atomic by their
  -- intervals, and each register
  pub record AllAreShown (passes : List (Pass V F S T)) (last : Posted V) : Type 0 where
    pub greatest : IsGreatest passes last
    pub order : HaveAtomicOrder words board passes last
    pub registers : AllAtomic words board passes

  -- *A board's end*, of a look with all passes, which had made any calls before, and of the end: both show all calls,
  -- and between them none is made
  pub record BoardEndTheorem (passes : List (Pass V F S T)) (shown last : Posted V) : Type 0 where
    pub final : List (Pass V F S T)
    pub so_far : AllAreShown passes shown
    pub still : map standing final ≡ map standing passes
    pub ended : AllAreShown final last
