-- The calls of a board's run so far as operations: one that is cut off has no end. Pending operations in a history are
-- M. Herlihy's and J. Wing's, Linearizability: A Correctness Condition for Concurrent Objects, ACM Transactions on
-- Programming Languages and Systems 12, 1990.
use Rattle.std.specs.Prelude.{◌≡◌, ◌⊎◌, ℕ, ◌<◌, ◌&&◌, ◌||◌, List, [], ◌∷◌, length, slice_get, Option, Some, None}
use Rattle.std.specs.Prelude.{is_some, if◌then◌else◌}
use Rattle.history_core.specs.declared.history.Op.{Op}
use Rattle.history_core.specs.Orders.{IsAtomicOrder, is_write, RefusesLawfully, times_of}
use Rattle.matrix_core.specs.declared.stamp.Stamp.{Stamp}
use Rattle.matrix_core.specs.Lines.{first_record}
use Rattle.matrix_core.specs.Listings.{IsInOrder}
use Rattle.board_history.specs.BoardRuns.{Called, Did, end_of}
use Rattle.board_history.specs.RunsSoFar.{IsBoardRunSoFar, unchosen_begin}

module _ {V : Type 0} where
  -- the operation is call k of its process, which has chosen: it ends with the call's last step, if that is made
  pub record IsOpOfCallSoFar (width n : ℕ) (did : ℕ → Did V) (op : Op V) (chose : Option Stamp) (k : ℕ) : Type 0 where
    pub who : op.who < n
    pub call : Called V
    pub made : slice_get (did op.who).calls k ≡ Some call
    pub kind : op.kind ≡ call.kind
    pub item : op.item ≡ Some call.chosen.item
    pub stamp : chose ≡ Some call.chosen.stamp
    pub begins : op.starts ≡ call.begin
    pub ends : op.ends ≡ end_of width n (did op.who) k call

  -- the operation is the call of its process that hasn't chosen: it has begun, and that is all that is known of it
  pub record IsUnchosenCall (width n : ℕ) (did : ℕ → Did V) (op : Op V) (chose : Option Stamp) : Type 0 where
    pub who : op.who < n
    pub begins : unchosen_begin width n (did op.who) ≡ Some op.starts
    pub ends : op.ends ≡ None
    pub stamp : chose ≡ None

  -- *The history so far*: the operations are the calls, each once, in order of beginning, with the stamps of those that
  -- have chosen
  pub record IsHistorySoFar (width n : ℕ) (did : ℕ → Did V) (ops : List (Op V))
      (stamps : List (Option Stamp)) : Type 0 where
    pub long : length stamps ≡ length ops
    pub each : (p : ℕ) (op : Op V) (stamp : Option Stamp) →
        slice_get ops p ≡ Some op → slice_get stamps p ≡ Some stamp →
        ((k : ℕ) × IsOpOfCallSoFar width n did op stamp k) ⊎ IsUnchosenCall width n did op stamp
    pub all : (i k : ℕ) (c : Called V) → i < n → slice_get (did i).calls k ≡ Some c →
        (p : ℕ) × (op : Op V) × (stamp : Option Stamp) × (slice_get ops p ≡ Some op)
        × (slice_get stamps p ≡ Some stamp) × (op.who ≡ i)
        × IsOpOfCallSoFar width n did op stamp k
    pub unchosen : (i begin : ℕ) → i < n → unchosen_begin width n (did i) ≡ Some begin →
        (p : ℕ) × (op : Op V) × (stamp : Option Stamp) × (slice_get ops p ≡ Some op)
        × (slice_get stamps p ≡ Some stamp) × (op.who ≡ i)
        × IsUnchosenCall width n did op stamp
    pub rising : (p q : ℕ) (a b : Op V) → slice_get ops p ≡ Some a → slice_get ops q ≡ Some b → p < q →
        a.starts < b.starts

  -- an operation that has ended stands in the order; one that is cut off stands in it exactly if it is a write that has
  -- chosen
  abbrev pub StandIfChosen : List (Op V) → List (Option Stamp) → List ℕ → Type 0
  StandIfChosen ops stamps order = (p : ℕ) (op : Op V) (stamp : Option Stamp) →
      slice_get ops p ≡ Some op → slice_get stamps p ≡ Some stamp →
      times_of p order ≡ (if is_some op.ends || (is_write op.kind && is_some stamp) then 1 else 0)

  -- *An atomic run so far*: all calls so far, ended or cut off, are the operations of a history, and an order of them
  -- by stamp is atomic by their intervals and refuses lawfully. This comes of one schedule of all steps so far
  pub record IsAtomicRunSoFar (width n limit : ℕ) (opening : V) (steps : List ℕ) (did : ℕ → Did V) : Type 0 where
    pub ops : List (Op V)
    pub stamps : List (Option Stamp)
    pub order : List ℕ
    pub history : IsHistorySoFar width n did ops stamps
    pub by_stamp : IsInOrder ops stamps order
    pub atomic : IsAtomicOrder (λ x y. x ≡ y) opening ops order
    pub lawful : RefusesLawfully (record { first = 0; limit = limit } ∷ []) ops order
    pub chosen : StandIfChosen ops stamps order
    pub run : IsBoardRunSoFar width n limit (first_record opening) steps did
