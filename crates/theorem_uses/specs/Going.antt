-- Consequences of what a board shows while it goes on (this project's own).
use Rattle.std.specs.Prelude.{◌≡◌, ◌≢◌, ℕ, ◌<◌, List, [], length, map, slice_get, Some}
use Rattle.history_core.specs.declared.history.Kind.TheVariants.{Read}
use Rattle.cell_contract.specs.Intervals.{AreFirst}
use Rattle.cell_contract.specs.declared.family.Family.{Ghosts as FamilyWords}
use Rattle.board_history.specs.BoardRuns.{Called}
use Rattle.board_live.specs.declared.board.Board.{Board}
use Rattle.board_live.specs.declared.board.Pass.{Pass}
use Rattle.board_live.specs.declared.record.Posted.{Posted}
use Rattle.board_live.specs.Ends.{AllAtomic, did_by, HaveAtomicOrder, IsGreatest, standing}
use Rattle.board_live.specs.Passes.{HasMade}
use Rattle.theorem_uses.specs.Boards.{IsOnlyBoardWrite}

module _ {V F S T : Type 0} (words : FamilyWords F (Posted V) S T) (board : Board V F S T)
    (passes : List (Pass V F S T)) where
  -- whatever calls were made with the passes: a read that began after the only write had ended has its record
  abbrev pub ReadsTheOnlyWriteSoFar : Type 0
  ReadsTheOnlyWriteSoFar = (calls : ℕ → List (Called V)) (i k j m : ℕ) (write read : Called V) →
      ((e : ℕ) (p : Pass V F S T) → slice_get passes e ≡ Some p → HasMade words board p (calls e)) →
      IsOnlyBoardWrite board.processes (did_by words passes calls) i k write → j < board.processes →
      slice_get (did_by words passes calls j).calls m ≡ Some read → read.kind ≡ Read → write.end < read.begin →
      read.chosen.item ≡ write.chosen.item

  -- of a process that told another one nothing this one knows of no write, and each of its answers is the
  -- opening; no write is under way
  abbrev pub AnswersTheOpening : Type 0
  AnswersTheOpening = (i j : ℕ) (p q : Pass V F S T) → slice_get passes i ≡ Some p →
      slice_get passes j ≡ Some q → i ≢ j → (words.writes p.seat j).items ≡ [] →
      ((words.reads q.seat i).known.items ≡ []) × ((words.writes p.seat j).times.ends ≡ [])
      × ((k : ℕ) (x : Posted V) → slice_get (words.reads q.seat i).answers k ≡ Some x → x ≡ board.first)

module _ {V F S T : Type 0} (words : FamilyWords F (Posted V) S T) where
  -- passes that are the same but for their memory have one greatest record
  abbrev pub HaveOneGreatest : Type 0
  HaveOneGreatest = (old new : List (Pass V F S T)) (a b : Posted V) → map standing new ≡ map standing old →
      IsGreatest old a → IsGreatest new b → a ≡ b

  -- atomic registers show the opening where nothing was told
  abbrev pub RegistersShow : Type 0
  RegistersShow = (board : Board V F S T) (passes : List (Pass V F S T)) → AllAtomic words board passes →
      AnswersTheOpening words board passes

  -- between calls no write is under way, and what a reader knows of is the first of what was written
  abbrev pub RegistersHaveEnded : Type 0
  RegistersHaveEnded = (board : Board V F S T) (passes : List (Pass V F S T)) (i j : ℕ) (p q : Pass V F S T) →
      AllAtomic words board passes → slice_get passes i ≡ Some p → slice_get passes j ≡ Some q → i ≢ j →
      (length (words.writes p.seat j).times.ends ≡ length (words.writes p.seat j).times.begins)
      × AreFirst (words.reads q.seat i).known (words.writes p.seat j).items (words.writes p.seat j).times

  -- an atomic order shows the only write to whoever reads after it
  abbrev pub OrdersShow : Type 0
  OrdersShow = (board : Board V F S T) (passes : List (Pass V F S T)) (last : Posted V) →
      HaveAtomicOrder words board passes last → ReadsTheOnlyWriteSoFar words board passes
