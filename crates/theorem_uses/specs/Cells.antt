-- Consequences of the calls of a running cell, in exact values (this project's own).
use Rattle.std.specs.Prelude.{◌≡◌, ◌≢◌, ◌⊎◌, ℕ, ◌+◌, ◌<◌, ◌≤◌, List, [], ◌∷◌, length, slice_get, Some}
use Rattle.history_core.specs.declared.history.Op.{Op}
use Rattle.history_core.specs.declared.history.Kind.TheVariants.{Write, Read}
use Rattle.cell_contract.specs.declared.times.Times.{Times}
use Rattle.cell_contract.specs.declared.times.Known.{Known}
use Rattle.cell_contract.specs.Histories.{AreOps}
use Rattle.cell_contract.specs.Intervals.{AreAtomic, AreHeeded, At, HaveEnded, IsNextAnswer}
use Rattle.cell_contract.specs.Intervals.{IsNextCall, IsNoOlder, known_as}
use Rattle.cell_contract.specs.Running.{IsAnswer, last_or, Settled}

-- one call from the first time to the second, and two
abbrev pub one_call : ℕ → ℕ → Times
one_call begin end = record { begins = begin ∷ []; ends = end ∷ []; clock = end }

abbrev pub two_calls : ℕ → ℕ → ℕ → ℕ → Times
two_calls a b c d = record { begins = a ∷ c ∷ []; ends = b ∷ d ∷ []; clock = d }

module _ (T : Type 0) where
  -- a read after a write has its record
  abbrev pub ReadsTheWrite : Type 0
  ReadsTheWrite = (opening x : T) (answers : List T) (numbers : List ℕ) →
      AreAtomic opening (x ∷ []) (one_call 1 2) answers numbers (one_call 3 4) → answers ≡ x ∷ []

  -- a read before every write has the opening
  abbrev pub ReadsTheOpening : Type 0
  ReadsTheOpening = (opening x : T) (answers : List T) (numbers : List ℕ) →
      AreAtomic opening (x ∷ []) (one_call 5 6) answers numbers (one_call 3 4) → answers ≡ opening ∷ []

  -- of two reads that meet one write, the second has its record if the first had it
  abbrev pub ReadsNoOlder : Type 0
  ReadsNoOlder = (opening x y : T) (numbers : List ℕ) → opening ≢ x →
      AreAtomic opening (x ∷ []) (one_call 1 9) (x ∷ y ∷ []) numbers (two_calls 2 3 4 5) → y ≡ x

  -- no call ends before it begins, and none begins before the one before it has ended, on either side
  abbrev pub GoInTurn : Type 0
  GoInTurn = (opening : T) (written : List T) (writes : Times) (answers : List T) (numbers : List ℕ) (reads : Times)
      (k b e next : ℕ) → AreAtomic opening written writes answers numbers reads →
      (At writes.begins k b → At writes.ends k e → (b ≤ e) × (At writes.begins (k + 1) next → e < next))
      × (At reads.begins k b → At reads.ends k e → (b ≤ e) × (At reads.begins (k + 1) next → e < next))

  -- each write that was begun has a record, and at most the last hasn't ended; if none is under way all have
  abbrev pub AreCounted : Type 0
  AreCounted = (opening : T) (written : List T) (writes : Times) (answers : List T) (numbers : List ℕ) (reads : Times) →
      AreAtomic opening written writes answers numbers reads → HaveEnded writes → length writes.ends ≡ length written

  -- of two records, the later one of them and then the earlier one aren't answered
  abbrev pub NeverGoesBack : Type 0
  NeverGoesBack = (a b : T) → Settled (a ∷ b ∷ []) (b ∷ a ∷ []) → a ≡ b

  -- the answer is the opening or a write that is known, what was known still is, and an answer was added
  abbrev pub AnswersAKnownWrite : Type 0
  AnswersAKnownWrite = (opening : T) (old new : Known T) (before after : List ℕ) (answers : List T)
      (reads : Times) (answer : T) → IsNextAnswer opening old new before after answers reads answer →
      ((answer ≡ opening) ⊎ ((k : ℕ) × (slice_get new.items k ≡ Some answer)))
      × ((k : ℕ) (x : T) → slice_get old.items k ≡ Some x → slice_get new.items k ≡ Some x)
      × ((k t : ℕ) → At old.times.begins k t → At new.times.begins k t)
      × ((k t : ℕ) → At old.times.ends k t → At new.times.ends k t)
      × (length answers ≡ length before + 1)

  -- a read after the receipt of a pass that had written these records gives one that was written, no older than the
  -- last of these, and the writes known have their intervals
  abbrev pub AnswersTheWriter : Type 0
  AnswersTheWriter = (opening : T) (written : List T) (writes : Times) (heard : List (Known T))
      (k : ℕ) (old new : Known T) (before after : List ℕ)
      (answers : List T) (reads : Times) (answer : T) → slice_get heard k ≡ Some (known_as written writes) →
      AreHeeded heard new (last_or 0 after) → IsNextAnswer opening old new before after answers reads answer →
      IsNoOlder opening written answer × ((j t : ℕ) → At writes.begins j t → At new.times.begins j t)
      × ((j t : ℕ) → At writes.ends j t → At new.times.ends j t)

  -- of a pass that had written x and then y the answer is y, if no write more is known; and no
  -- answer stands before y alone
  abbrev pub AnswersNothingStale : Type 0
  AnswersNothingStale = (opening x y : T) (writes : Times) (heard : List (Known T)) (k : ℕ) (old new : Known T)
      (before after : List ℕ) (answers : List T) (reads : Times) (answer : T) →
      slice_get heard k ≡ Some (known_as (x ∷ y ∷ []) writes) →
      AreHeeded heard new (last_or 0 after) → IsNextAnswer opening old new before after answers reads answer →
      (length new.items ≡ 2 → answer ≡ y) × (((j : ℕ) → slice_get new.items j ≡ Some answer → j < 1) → ⊥)

  -- write k and read m are operations of the history, with their intervals and their records
  abbrev pub AreInTheHistory : Type 0
  AreInTheHistory = (written : List T) (writes : Times) (answers : List T) (numbers : List ℕ) (reads : Times)
      (ops : List (Op T)) (number : ℕ → ℕ) (k : ℕ) (x : T) → AreOps written writes answers numbers reads ops number →
      (slice_get written k ≡ Some x → (p : ℕ) × (op : Op T) × (slice_get ops p ≡ Some op) × (op.kind ≡ Write)
      × (op.item ≡ Some x) × At writes.begins k op.starts × (op.ends ≡ slice_get writes.ends k) × (number p ≡ k + 1))
      × (slice_get answers k ≡ Some x → (p : ℕ) × (op : Op T) × (slice_get ops p ≡ Some op) × (op.kind ≡ Read)
      × (op.item ≡ Some x) × At reads.begins k op.starts × (op.ends ≡ slice_get reads.ends k))

-- a call more, which took its time after all that the pass knew of
abbrev pub TakesItsTime : Type 0
TakesItsTime = (old new : Times) → IsNextCall old new →
    (length new.begins ≡ length old.begins + 1) × (length new.ends ≡ length old.ends + 1) × (old.clock < new.clock)
    × ((b : ℕ) → At new.begins (length old.begins) b → old.clock < b)

module _ {T : Type 0} (fits : T → Type 0) (rises : T → T → Type 0) where
  -- an answer obeys the law, and by it may stand after the opening, the answer before and each record that was told
  abbrev pub ObeysTheLaw : Type 0
  ObeysTheLaw = (opening : T) (answers told : List T) (k : ℕ) (x answer : T) →
      IsAnswer fits rises opening answers told answer →
      slice_get told k ≡ Some x → fits answer × rises opening answer
      × rises (last_or opening answers) answer × rises x answer
