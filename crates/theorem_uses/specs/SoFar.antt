-- Consequences of an atomic run so far, in which the last call of each process may be cut off (this project's own).
use Rattle.std.specs.Prelude.{◌≡◌, ◌≢◌, ℕ, ◌<◌, ◌≤◌, List, slice_get, Option, None, Some}
use Rattle.history_core.specs.declared.history.Kind.TheVariants.{Write, Read, Refused}
use Rattle.history_core.specs.declared.history.Op.{Op}
use Rattle.history_core.specs.Orders.{times_of}
use Rattle.history_core.specs.Schedules.{positions}
use Rattle.matrix_core.specs.declared.stamp.Stamp.{Stamp}
use Rattle.matrix_core.specs.Choices.{IsAtMost}
use Rattle.matrix_core.specs.Lines.{first_record}
use Rattle.board_history.specs.BoardRuns.{Called, Did, IsRegister}
use Rattle.board_history.specs.HistoriesSoFar.{IsAtomicRunSoFar}
use Rattle.board_history.specs.BoardRuns.{end_of}
use Rattle.board_history.specs.RunsSoFar.{IsProcessSoFar, unchosen_begin}
use Rattle.theorem_uses.specs.Boards.{IsOnlyBoardWrite}

-- an operation of the history at this place, with its stamp, which the order lists so often
pub record StandsSoOften {V : Type 0} (ops : List (Op V)) (stamps : List (Option Stamp)) (order : List ℕ) (op : Op V)
    (stamp : Option Stamp) (times : ℕ) : Type 0 where
  pub place : ℕ
  pub there : slice_get ops place ≡ Some op
  pub chose : slice_get stamps place ≡ Some stamp
  pub stands : times_of place order ≡ times

module _ (V : Type 0) where
  -- a read that has ended, and began after the only write had ended, has its record, whoever is cut off
  abbrev pub ReadsThoughOthersStop : Type 0
  ReadsThoughOthersStop = (width n limit : ℕ) (opening : V) (steps : List ℕ) (did : ℕ → Did V) (i k j m end fin : ℕ)
      (write read : Called V) → IsAtomicRunSoFar width n limit opening steps did →
      IsOnlyBoardWrite n did i k write → j < n → slice_get (did j).calls m ≡ Some read → read.kind ≡ Read →
      end_of width n (did i) k write ≡ Some end → end < read.begin →
      end_of width n (did j) m read ≡ Some fin → read.chosen.item ≡ write.chosen.item

  -- if no write has chosen, and the limit isn't 0, no refused write has ended
  abbrev pub RefusesNoneSoFar : Type 0
  RefusesNoneSoFar = (width n limit : ℕ) (opening : V) (steps : List ℕ) (did : ℕ → Did V) (j m fin : ℕ)
      (call : Called V) → 0 < limit → IsAtomicRunSoFar width n limit opening steps did →
      ((i k : ℕ) (c : Called V) → i < n → slice_get (did i).calls k ≡ Some c → c.kind ≢ Write) → j < n →
      slice_get (did j).calls m ≡ Some call → end_of width n (did j) m call ≡ Some fin → call.kind ≢ Refused

  -- each call that has chosen is an operation from its first step to its last, if that is made. It stands in the order
  -- if it has ended or is a write
  abbrev pub CallsStandSoFar : Type 0
  CallsStandSoFar = (width n limit : ℕ) (opening : V) (steps : List ℕ) (did : ℕ → Did V) (i k : ℕ) (call : Called V)
      (r : IsAtomicRunSoFar width n limit opening steps did) → i < n → slice_get (did i).calls k ≡ Some call →
      (op : Op V) × (op.who ≡ i) × (op.kind ≡ call.kind) × (op.item ≡ Some call.chosen.item) × (op.starts ≡ call.begin)
      × (op.ends ≡ end_of width n (did i) k call)
      × (call.kind ≡ Write → StandsSoOften r.ops r.stamps r.order op (Some call.chosen.stamp) 1)
      × ((fin : ℕ) → end_of width n (did i) k call ≡ Some fin →
      StandsSoOften r.ops r.stamps r.order op (Some call.chosen.stamp) 1)
      × (end_of width n (did i) k call ≡ None → call.kind ≢ Write →
      StandsSoOften r.ops r.stamps r.order op (Some call.chosen.stamp) 0)

  -- a call that hasn't chosen is an operation too, and stands nowhere
  abbrev pub UnchosenStandsNowhere : Type 0
  UnchosenStandsNowhere = (width n limit : ℕ) (opening : V) (steps : List ℕ) (did : ℕ → Did V) (i begin : ℕ)
      (r : IsAtomicRunSoFar width n limit opening steps did) → i < n → unchosen_begin width n (did i) ≡ Some begin →
      (op : Op V) × (op.who ≡ i) × (op.starts ≡ begin) × (op.ends ≡ None)
      × StandsSoOften r.ops r.stamps r.order op None 0

  -- a write that began after another call had ended has no smaller stamp, also if the write is cut off
  abbrev pub StampsRiseSoFar : Type 0
  StampsRiseSoFar = (width n limit : ℕ) (opening : V) (steps : List ℕ) (did : ℕ → Did V) (i k j m end : ℕ)
      (a b : Called V) → IsAtomicRunSoFar width n limit opening steps did → i < n → j < n →
      slice_get (did i).calls k ≡ Some a → slice_get (did j).calls m ≡ Some b →
      end_of width n (did i) k a ≡ Some end → end < b.begin → b.kind ≡ Write →
      IsAtMost a.chosen.stamp b.chosen.stamp

  -- a run has its processes' numbers and steps, and what each wrote to another and this one read is a register
  abbrev pub RunsSoFarShow : Type 0
  RunsSoFarShow = (width n limit : ℕ) (opening : V) (steps : List ℕ) (did : ℕ → Did V) →
      IsAtomicRunSoFar width n limit opening steps did →
      (2 ≤ n) × (n ≤ 16) × (0 < width) × ((step who : ℕ) → slice_get steps step ≡ Some who → who < n)
      × ((i : ℕ) → i < n → (did i).times ≡ positions 1 i steps)
      × ((i : ℕ) → i < n → IsProcessSoFar width n limit (first_record opening) i (did i))
      × ((i j : ℕ) → i < n → j < n → (i ≡ j → ⊥) →
      IsRegister (first_record opening) ((did i).writes j) ((did j).reads i))
