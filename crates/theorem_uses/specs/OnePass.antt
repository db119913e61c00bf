-- What one pass shows of all calls so far, while the others go on or are stopped for ever (this project's own).
use Rattle.std.specs.Prelude.{◌≡◌, ℕ, ◌<◌, List, map, slice_get, Some}
use Rattle.history_core.specs.declared.history.Kind.TheVariants.{Write}
use Rattle.history_core.specs.declared.history.Op.{Op}
use Rattle.cell_contract.specs.declared.family.Family.{Ghosts as FamilyWords}
use Rattle.matrix_core.specs.declared.stamp.Stamp.{Stamp}
use Rattle.matrix_core.specs.Stamps.{IsBelow}
use Rattle.board_history.specs.BoardRuns.{Called, Did}
use Rattle.board_history.specs.HistoriesSoFar.{IsAtomicRunSoFar}
use Rattle.board_history.specs.BoardRuns.{end_of}
use Rattle.board_live.specs.declared.board.Board.{Board}
use Rattle.board_live.specs.declared.board.Pass.{Pass}
use Rattle.board_live.specs.declared.record.Posted.{Posted}
use Rattle.board_live.specs.Passes.{HasMade, written_of}
use Rattle.board_live.specs.Records.{stamped}
use Rattle.board_live.specs.SoFar.{HasOrderSoFar, HaveAtomicOrderSoFar}
use Rattle.theorem_uses.specs.SoFar.{StandsSoOften}

module _ {V F S T : Type 0} (words : FamilyWords F (Posted V) S T) where
  -- in an atomic order of all calls so far a write of the pass's process, with this stamp and item, stands once
  pub record StandsOnce (board : Board V F S T) (pass : Pass V F S T) (stamp : Stamp) (written : V) : Type 0 where
    pub steps : List ℕ
    pub did : ℕ → Did V
    pub run : IsAtomicRunSoFar words.width board.processes board.limit board.first.item steps did
    pub op : Op V
    pub who : op.who ≡ pass.process
    pub kind : op.kind ≡ Write
    pub item : op.item ≡ Some written
    pub stands : StandsSoOften run.ops run.stamps run.order op (Some stamp) 1

  -- in a run so far the pass's process made its calls in its steps, and wrote and read what its seat knows of
  abbrev pub OnePassShows : Type 0
  OnePassShows = (board : Board V F S T) (pass : Pass V F S T) (calls : List (Called V)) →
      HaveAtomicOrderSoFar words board pass → HasMade words board pass calls → (steps : List ℕ) × (did : ℕ → Did V)
      × IsAtomicRunSoFar words.width board.processes board.limit board.first.item steps did
      × ((did pass.process).calls ≡ calls) × ((did pass.process).times ≡ words.times pass.seat)
      × ((j : ℕ) → (did pass.process).writes j ≡ written_of (words.writes pass.seat j))
      × ((j : ℕ) → ((did pass.process).reads j).items ≡ map stamped (words.reads pass.seat j).answers)
      × ((j : ℕ) → ((did pass.process).reads j).numbers ≡ (words.reads pass.seat j).numbers)
      × ((j : ℕ) → ((did pass.process).reads j).begins ≡ (words.reads pass.seat j).times.begins)
      × ((j : ℕ) → ((did pass.process).reads j).ends ≡ (words.reads pass.seat j).times.ends)

  -- whoever is stopped, and wherever: a call of the pass that began after another process's call had ended has no
  -- smaller stamp than that one. So a stale answer is absurd
  abbrev pub StaleCallsAreAbsurd : Type 0
  StaleCallsAreAbsurd = (board : Board V F S T) (pass : Pass V F S T) (calls : List (Called V)) (j m k end : ℕ)
      (a b : Called V) (h : HasOrderSoFar words board pass calls) → HasMade words board pass calls →
      pass.process < board.processes → slice_get calls k ≡ Some b → j < board.processes →
      slice_get (h.did j).calls m ≡ Some a → end_of words.width board.processes (h.did j) m a ≡ Some end →
      end < b.begin → IsBelow b.chosen.stamp a.chosen.stamp → ⊥
