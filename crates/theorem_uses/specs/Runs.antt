-- Consequences of a run of a board, in exact values (this project's own).
use Rattle.std.specs.Prelude.{◌≡◌, ℕ, ◌+◌, ◌<◌, ◌≤◌, Bool, true, false, List, [], ◌∷◌, length, slice_get, Some}
use Rattle.history_core.specs.declared.history.Kind.{Kind}
use Rattle.history_core.specs.declared.history.Kind.TheVariants.{Write, Read, Refused}
use Rattle.history_core.specs.Schedules.{positions}
use Rattle.matrix_core.specs.declared.stamp.Stamped.{Stamped}
use Rattle.matrix_core.specs.Stamps.{greater}
use Rattle.board_history.specs.BoardRuns.{Answered, Called, Did, IsBoardRun, IsProcess}
use Rattle.board_history.specs.BoardRuns.{IsRegister, steps_before, Written}

module _ {V : Type 0} where
  -- a call from one time to another, which finds nothing
  abbrev pub called : ℕ → ℕ → Kind → Stamped V → Stamped V → Bool → Called V
  called begin end kind seen chosen tells =
      record { begin = begin; end = end; kind = kind; seen = seen; chosen = chosen; tells = tells; finds = false }

  -- a process that made one call
  abbrev pub one_call : List ℕ → Called V → (ℕ → Written V) → (ℕ → Answered V) → Did V
  one_call times call writes reads = record { times = times; calls = call ∷ []; writes = writes; reads = reads }

  -- one record written, and one read, from the first time to the second
  abbrev pub written_once : Stamped V → ℕ → ℕ → Written V
  written_once x begin end = record { items = x ∷ []; begins = begin ∷ []; ends = end ∷ [] }

  abbrev pub answered_once : Stamped V → List ℕ → ℕ → ℕ → Answered V
  answered_once x numbers begin end = record { items = x ∷ []; numbers = numbers; begins = begin ∷ []; ends = end ∷ [] }

module _ (V : Type 0) where
  -- process 0 of a board of two, over registers of one step, made one call and told what it chose: the call
  -- is its two steps, in the first it reads the other process's register, and in the second it writes the
  -- record that it chose to its own
  abbrev pub ToldCallShows : Type 0
  ToldCallShows = (limit b e : ℕ) (kind : Kind) (first seen chosen : Stamped V) (times : List ℕ)
      (writes : ℕ → Written V) (reads : ℕ → Answered V) →
      IsProcess 1 2 limit first 0 (one_call times (called b e kind seen chosen true) writes reads) →
      (times ≡ b ∷ e ∷ []) × ((reads 1).begins ≡ b ∷ []) × ((reads 1).ends ≡ b ∷ []) × ((writes 1).begins ≡ e ∷ [])
      × ((writes 1).ends ≡ e ∷ []) × ((writes 1).items ≡ chosen ∷ [])
      × ((answer : Stamped V) × ((reads 1).items ≡ answer ∷ []) × (seen ≡ greater first answer))
      × (kind ≡ Write → (seen.stamp.tag < limit) × (chosen.stamp ≡ record { tag = seen.stamp.tag + 1; writer = 0 }))
      × (kind ≡ Read → (chosen.stamp ≡ seen.stamp) × (chosen.item ≡ seen.item))
      × (kind ≡ Refused → (limit ≤ seen.stamp.tag) × (chosen.stamp ≡ seen.stamp) × (chosen.item ≡ seen.item))

  -- it told nothing: the call is one step, and it chose the record that the process had, the opening
  abbrev pub SilentCallShows : Type 0
  SilentCallShows = (limit b e : ℕ) (kind : Kind) (first seen chosen : Stamped V) (times : List ℕ)
      (writes : ℕ → Written V) (reads : ℕ → Answered V) →
      IsProcess 1 2 limit first 0 (one_call times (called b e kind seen chosen false) writes reads) →
      (times ≡ b ∷ []) × (e ≡ b) × ((writes 1).items ≡ []) × (chosen ≡ first)

  -- of a register with one write a read that begins after it has its record, and one that ends before it the opening
  abbrev pub RegisterShows : Type 0
  RegisterShows = (first x y : Stamped V) (numbers : List ℕ) →
      (IsRegister first (written_once x 1 2) (answered_once y numbers 3 4) → y ≡ x)
      × (IsRegister first (written_once x 5 6) (answered_once y numbers 3 4) → y ≡ first)

  -- a run has its processes' numbers and steps
  abbrev pub RunsShow : Type 0
  RunsShow = (width n limit : ℕ) (first : Stamped V) (steps : List ℕ) (did : ℕ → Did V) →
      IsBoardRun width n limit first steps did →
      (2 ≤ n) × (n ≤ 16) × (0 < width) × ((step who : ℕ) → slice_get steps step ≡ Some who → who < n)
      × ((i : ℕ) → i < n → (did i).times ≡ positions 1 i steps)
      × ((i : ℕ) → i < n → length (did i).times ≡ steps_before width n (did i).calls (length (did i).calls))
      × ((i j : ℕ) → i < n → j < n → (i ≡ j → ⊥) → length ((did j).reads i).numbers ≡ length ((did j).reads i).items)
