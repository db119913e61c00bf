-- The calls of a board's run as operations with intervals (operations, their precedence and atomic orders are L.
-- Lamport's, On Interprocess Communication, Parts I and II, Distributed Computing 1, 1986).
use Rattle.std.specs.Prelude.{◌≡◌, ◌⊎◌, ℕ, ◌<◌, List, length, slice_get, Option, Some}
use Rattle.history_core.specs.declared.history.Kind.TheVariants.{Write}
use Rattle.history_core.specs.declared.history.Op.{Op}
use Rattle.matrix_core.specs.declared.stamp.Stamp.{Stamp}
use Rattle.matrix_core.specs.declared.stamp.Stamped.{Stamped}
use Rattle.matrix_core.specs.Choices.{IsAtMost}
use Rattle.board_history.specs.BoardRuns.{Called, Did, own_before}

module _ {V : Type 0} where
  -- the operation is call k of its process: it has the call's interval, its kind and the record that it chose
  pub record IsOpOfCall (n : ℕ) (did : ℕ → Did V) (op : Op V) (chose : Option Stamp) (k : ℕ) : Type 0 where
    pub who : op.who < n
    pub call : Called V
    pub made : slice_get (did op.who).calls k ≡ Some call
    pub kind : op.kind ≡ call.kind
    pub item : op.item ≡ Some call.chosen.item
    pub stamp : chose ≡ Some call.chosen.stamp
    pub begins : op.starts ≡ call.begin
    pub ends : op.ends ≡ Some call.end

  -- *The history*: the operations are the calls, each once, with the stamps that they chose, in order of beginning
  pub record IsHistory (n : ℕ) (did : ℕ → Did V) (ops : List (Op V)) (stamps : List (Option Stamp)) : Type 0 where
    pub long : length stamps ≡ length ops
    pub each : (p : ℕ) (op : Op V) (stamp : Option Stamp) → slice_get ops p ≡ Some op →
        slice_get stamps p ≡ Some stamp → (k : ℕ) × IsOpOfCall n did op stamp k
    pub all : (i k : ℕ) (c : Called V) → i < n → slice_get (did i).calls k ≡ Some c →
        (p : ℕ) × (op : Op V) × (stamp : Option Stamp) × (slice_get ops p ≡ Some op)
        × (slice_get stamps p ≡ Some stamp) × (op.who ≡ i)
        × IsOpOfCall n did op stamp k
    pub rising : (p q : ℕ) (a b : Op V) → slice_get ops p ≡ Some a → slice_get ops q ≡ Some b → p < q →
        a.starts < b.starts

  -- *Written*: what a call chose is the opening, or the record of a call that is a write
  abbrev pub ChoseFrom : ℕ → Stamped V → (ℕ → Did V) → Called V → Type 0
  ChoseFrom n first did c = (c.chosen ≡ first)
      ⊎ ((j : ℕ) × (m : ℕ) × (w : Called V) × (j < n) × (slice_get (did j).calls m ≡ Some w)
      × (w.kind ≡ Write) × (c.chosen ≡ w.chosen))

  -- the record that a process has after its calls: what the last one chose, or the opening
  abbrev pub own_after : Stamped V → Did V → Stamped V
  own_after first did = own_before first did.calls (length did.calls)

  -- the greatest of the records that n processes have after their calls
  pub record IsGreatestOwn (n : ℕ) (first : Stamped V) (did : ℕ → Did V) (last : Stamped V) : Type 0 where
    pub process : ℕ
    pub inside : process < n
    pub own : last ≡ own_after first (did process)
    pub greatest : (i : ℕ) → i < n → IsAtMost (own_after first (did i)).stamp last.stamp
