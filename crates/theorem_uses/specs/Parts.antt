-- Consequences of accesses of a family, of orders by number and of the counts of atomic calls (this project's own).
use Rattle.std.specs.Prelude.{◌≡◌, ◌⊎◌, Bool, IsTrue, ℕ, ◌+◌, ◌<◌, ◌≤◌, false, List, [], ◌∷◌, ◌++◌, length}
use Rattle.std.specs.Prelude.{slice_get, Option, Some, None}
use Rattle.history_core.specs.declared.history.Op.{Op}
use Rattle.history_core.specs.declared.history.Kind.TheVariants.{Write, Read, Refused}
use Rattle.history_core.specs.declared.wish.Wish.TheVariants.{Write as WriteWish, Read as ReadWish}
use Rattle.history_core.specs.Orders.{is_write}
use Rattle.history_core.specs.Schedules.{Follows}
use Rattle.history_core.specs.Registers.{IsBefore}
use Rattle.matrix_core.specs.declared.stamp.Stamped.{Stamped}
use Rattle.matrix_core.specs.Choices.{IsAtMost}
use Rattle.cell_contract.specs.declared.times.Known.{Known}
use Rattle.cell_contract.specs.declared.times.Times.{Times}
use Rattle.cell_contract.specs.Histories.{AreOps, IsByNumbers}
use Rattle.cell_contract.specs.Intervals.{AreAtomic, AreFirst, At}
use Rattle.cell_contract.specs.Running.{last_or}
use Rattle.cell_contract.specs.Accesses.{IsReadAccess, IsWriteAccess, ReadAccesses, WriteAccesses}
use Rattle.board_history.specs.BoardRuns.{Did}
use Rattle.board_history.specs.Histories.{IsGreatestOwn, own_after}
use Rattle.board_live.specs.declared.record.Posted.{Posted}
use Rattle.board_live.specs.Passes.{IsFurtherAnswer, IsMindful}

module _ (T : Type 0) where
  -- a read adds its answer and a number, and no receipt; the number is no less than that of the last
  -- write of each that was learnt
  abbrev pub ReadsShow : Type 0
  ReadsShow = (opening : T) (old new : ReadAccesses T) (answer : T) → IsReadAccess opening old new answer →
      (new.answers ≡ old.answers ++ answer ∷ []) × (new.told ≡ old.told) × (new.heard ≡ old.heard)
      × (length new.numbers ≡ length old.numbers + 1)
      × ((k : ℕ) (told : Known T) → slice_get new.heard k ≡ Some told → length told.items ≤ last_or 0 new.numbers)

  -- a write adds its record
  abbrev pub WritesShow : Type 0
  WritesShow = (old new : WriteAccesses T) (item : T) → IsWriteAccess old new item → new.items ≡ old.items ++ item ∷ []

  -- an order by number has each place once, no place beyond, and a write before the reads of its number
  abbrev pub NumbersShow : Type 0
  NumbersShow = (ops : List (Op T)) (number : ℕ → ℕ) (order : List ℕ) → IsByNumbers ops number order →
      ((i p : ℕ) → slice_get order i ≡ Some p → p < length ops)
      × ((i j p : ℕ) → slice_get order i ≡ Some p → slice_get order j ≡ Some p → i ≡ j)
      × ((p : ℕ) → p < length ops → (i : ℕ) × (slice_get order i ≡ Some p))
      × ((i j p q : ℕ) (a b : Op T) → slice_get order i ≡ Some p → slice_get ops p ≡ Some a →
      slice_get order j ≡ Some q → slice_get ops q ≡ Some b → i < j → number q ≤ number p →
      (number p ≡ number q) × (is_write b.kind ≡ false) × (is_write a.kind ≡ false → a.starts ≤ b.starts))

  -- an operation of the history is a write with its number and record, or a read with those of its answer
  abbrev pub OpsShow : Type 0
  OpsShow = (written answers : List T) (writes reads : Times) (numbers : List ℕ) (ops : List (Op T)) (number : ℕ → ℕ)
      (p : ℕ) (op : Op T) → AreOps written writes answers numbers reads ops number → slice_get ops p ≡ Some op →
      ((k : ℕ) × (op.kind ≡ Write) × (op.item ≡ slice_get written k) × (number p ≡ k + 1))
      ⊎ ((m : ℕ) × (op.kind ≡ Read) × (op.item ≡ slice_get answers m) × At numbers m (number p))

  -- nothing follows where nothing was planned, and what hasn't happened is before nothing
  abbrev pub NothingShows : Type 0
  NothingShows = (op : Op T) (b : Option ℕ) → (Follows None op → ⊥) × (IsBefore None b → ⊥)

  -- each answer has its interval, and of the writes all have but perhaps the last
  abbrev pub CountsShow : Type 0
  CountsShow = (opening : T) (written : List T) (writes : Times) (answers : List T) (numbers : List ℕ) (reads : Times) →
      AreAtomic opening written writes answers numbers reads →
      (length reads.begins ≡ length answers) × (length reads.ends ≡ length answers)
      × (length writes.ends ≤ length written)
      × (length written ≤ length writes.ends + 1)

  -- the greatest record is a process's last, and none has a greater one
  abbrev pub GreatestShows : Type 0
  GreatestShows = (n : ℕ) (first last : Stamped T) (did : ℕ → Did T) → IsGreatestOwn n first did last →
      ((i : ℕ) × (i < n) × (last ≡ own_after first (did i)))
      × ((i : ℕ) → i < n → IsAtMost (own_after first (did i)).stamp last.stamp)

  -- an answer obeys the law, and is no older than the opening, the answer before and what was told
  abbrev pub AnsweredShow : Type 0
  AnsweredShow = (obeys : T → Bool) (opening : Posted T) (old new : ReadAccesses (Posted T)) (answer : Posted T) →
      IsFurtherAnswer obeys opening old new answer →
      IsTrue (obeys answer.item) × IsAtMost opening.stamp answer.stamp
      × IsAtMost (last_or opening old.answers).stamp answer.stamp
      × ((k : ℕ) (told : Posted T) → slice_get old.told k ≡ Some told → IsAtMost told.stamp answer.stamp)
      × (new.answers ≡ old.answers ++ answer ∷ [])

  -- an operation does what was planned: a write its item, if it isn't refused, and a read reads
  abbrev pub FollowsShow : Type 0
  FollowsShow = (item : T) (op : Op T) →
      (Follows (Some (WriteWish item)) op → ((op.kind ≡ Write) × (op.item ≡ Some item)) ⊎ (op.kind ≡ Refused))
      × (Follows (Some ReadWish) op → op.kind ≡ Read)

  -- after a read of a register its process has forgotten no receipt, and knows the writes that each carried
  abbrev pub MindfulShows : Type 0
  MindfulShows = (old new : ReadAccesses (Posted T)) (k : ℕ) (told : Known (Posted T)) → IsMindful old new →
      (new.heard ≡ old.heard) × (slice_get new.heard k ≡ Some told → AreFirst told new.known.items new.known.times)
