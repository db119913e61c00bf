-- The calls of a cell as intervals of the table's time, in which each step on a word has a time of its own. Operations
-- as intervals and their precedence are L. Lamport's, On Interprocess Communication, Parts I and II, Distributed
-- Computing 1, 1986; numbers of reads are this project's own.
use Rattle.std.specs.Prelude.{◌≡◌, ℕ, ◌+◌, ◌<◌, ◌≤◌, max, List, [], ◌∷◌, ◌++◌, length, All, slice_get, Some}
use Rattle.history_core.specs.Registers.{intervals, IsRegular}
use Rattle.cell_contract.specs.declared.times.Times.{Times}
use Rattle.cell_contract.specs.declared.times.Known.{Known}
use Rattle.cell_contract.specs.declared.times.Dated.{Dated}

-- the list has t at place k
abbrev pub At : List ℕ → ℕ → ℕ → Type 0
At ts k t = slice_get ts k ≡ Some t

abbrev pub no_times : Times
no_times = record { begins = []; ends = []; clock = 0 }

abbrev pub none_known : {T : Type 0} → Known T
none_known = record { items = []; times = no_times }

-- these records, written at these times
abbrev pub known_as : {T : Type 0} → List T → Times → Known T
known_as written writes = record { items = written; times = writes }

-- what a receipt names, and its default
abbrev pub dated_at : {T : Type 0} → T → Known T → Dated T
dated_at x writes = record { item = x; time = writes.times.clock; writes = writes }

abbrev pub dated : {T : Type 0} → T → Dated T
dated x = dated_at x none_known

-- after a step at time t, with which a call begins, goes on or ends; and after a receipt with a time
abbrev pub begun_at : Times → ℕ → Times
begun_at s t = record s { begins = s.begins ++ t ∷ []; clock = t }

abbrev pub passed_at : Times → ℕ → Times
passed_at s t = record s { clock = t }

abbrev pub ended_at : Times → ℕ → Times
ended_at s t = record s { ends = s.ends ++ t ∷ []; clock = t }

-- a call of one step begins and ends with it
abbrev pub made_at : Times → ℕ → Times
made_at s t = ended_at (begun_at s t) t

abbrev pub heard_at : Times → ℕ → Times
heard_at s t = record s { clock = max s.clock t }

-- *The next call*: one call more. It begins after all that the pass knew of, and ends no earlier than it begins
pub record IsNextCall (old new : Times) : Type 0 where
  pub begin : ℕ
  pub end : ℕ
  pub after : old.clock < begin
  pub forwards : begin ≤ end
  pub begins : new.begins ≡ old.begins ++ begin ∷ []
  pub ends : new.ends ≡ old.ends ++ end ∷ []
  pub clock : new.clock ≡ end

-- no call more, and the pass knows of this time
pub record IsHeard (old new : Times) (time : ℕ) : Type 0 where
  pub begins : new.begins ≡ old.begins
  pub ends : new.ends ≡ old.ends
  pub later : old.clock ≤ new.clock
  pub heard : time ≤ new.clock

-- one call after the other
pub record InTurn (begins ends : List ℕ) : Type 0 where
  pub forwards : (k b e : ℕ) → At begins k b → At ends k e → b ≤ e
  pub follows : (k e b : ℕ) → At ends k e → At begins (k + 1) b → e < b

-- all lie up to the clock
pub record IsBy (s : Times) : Type 0 where
  pub begun : (k t : ℕ) → At s.begins k t → t ≤ s.clock
  pub ended : (k t : ℕ) → At s.ends k t → t ≤ s.clock

-- the number is at least that of each write that ended before this time
abbrev pub IsLate : List ℕ → ℕ → ℕ → Type 0
IsLate ends time n = (k e : ℕ) → At ends k e → e < time → k < n

-- the write with this number, if it is one, began before this time
abbrev pub HasBegun : List ℕ → ℕ → ℕ → Type 0
HasBegun begins time n = (k : ℕ) → n ≡ k + 1 → (b : ℕ) × At begins k b × (b < time)

-- *Atomic by intervals*: the register is regular, so each answer has a number, and these numbers never fall.
-- The last write may be under way
pub record AreAtomic {T : Type 0} (opening : T) (written : List T) (writes : Times) (answers : List T)
    (numbers : List ℕ) (reads : Times) : Type 0 where
  pub regular : IsRegular opening written (intervals writes.begins writes.ends) answers numbers
      (intervals reads.begins reads.ends)
  pub rising : (i j a b : ℕ) → At numbers i a → At numbers j b → i ≤ j → a ≤ b
  -- the intervals are those of calls in turn
  pub writes_in_turn : InTurn writes.begins writes.ends
  pub reads_in_turn : InTurn reads.begins reads.ends
  pub writes_begun : length writes.begins ≡ length written
  pub writes_ended : (length writes.ends ≤ length written) × (length written ≤ length writes.ends + 1)
  pub reads_counted : (length reads.begins ≡ length answers) × (length reads.ends ≡ length answers)

-- no call is under way
abbrev pub HaveEnded : Times → Type 0
HaveEnded s = length s.ends ≡ length s.begins

-- the second list goes on from the first
abbrev pub IsBeginning : {A : Type 0} → List A → List A → Type 0
IsBeginning {A} xs ys = (more : List A) × (ys ≡ xs ++ more)

-- the writes known are the first of these, by their records and their intervals
pub record AreFirst {T : Type 0} (known : Known T) (written : List T) (writes : Times) : Type 0 where
  pub items : IsBeginning known.items written
  pub begins : IsBeginning known.times.begins writes.begins
  pub ends : IsBeginning known.times.ends writes.ends

-- *Heeded*: the writes known begin with those of which a receipt told, and the answer's number is no less
-- than that of the last of these
pub record IsHeeded {T : Type 0} (told known : Known T) (number : ℕ) : Type 0 where
  pub first : AreFirst told known.items known.times
  pub later : length told.items ≤ number

-- what each receipt told is heeded
abbrev pub AreHeeded : {T : Type 0} → List (Known T) → Known T → ℕ → Type 0
AreHeeded heard known number = All (λ told. IsHeeded told known number) heard

-- *No older*: the answer stands in the list of the opening, these records and more, at no earlier
-- place than the last of these
abbrev pub IsNoOlder : {T : Type 0} → T → List T → T → Type 0
IsNoOlder {T} opening written answer =
    (more : List T) × (n : ℕ) × (length written ≤ n) × (slice_get (opening ∷ (written ++ more)) n ≡ Some answer)

-- *The next answer*: one number more, and the answer is the record with this number of the writes known, where the
-- opening has number 0. What was known is still, and with the writes known all answers are atomic by their intervals
pub record IsNextAnswer {T : Type 0} (opening : T) (old new : Known T) (before after : List ℕ)
    (answers : List T) (reads : Times) (answer : T) : Type 0 where
  pub number : ℕ
  pub numbers : after ≡ before ++ number ∷ []
  pub source : slice_get (opening ∷ new.items) number ≡ Some answer
  pub known : AreFirst old new.items new.times
  pub atomic : AreAtomic opening new.items new.times answers after reads

-- an instance: a write from 1 to 3, a read from 2 to 4 that meets it, and a read from 5 to 6
abbrev pub one_write : Times
one_write = record { begins = 1 ∷ []; ends = 3 ∷ []; clock = 3 }

abbrev pub two_reads : Times
two_reads = record { begins = 2 ∷ 5 ∷ []; ends = 4 ∷ 6 ∷ []; clock = 6 }

-- a write that began at 1 and is under way, and a read from 2 to 4
abbrev pub write_begun : Times
write_begun = record { begins = 1 ∷ []; ends = []; clock = 1 }

abbrev pub one_read : Times
one_read = record { begins = 2 ∷ []; ends = 4 ∷ []; clock = 4 }
