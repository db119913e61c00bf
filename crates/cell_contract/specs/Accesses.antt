-- The accesses of a family of registers, each of one writer and one reader, and what each call adds to what its
-- process did (this project's own, over the intervals of L. Lamport, On Interprocess Communication, Parts I and II,
-- Distributed Computing 1, 1986).
use Rattle.std.specs.Prelude.{◌≡◌, ◌≢◌, ℕ, ◌-◌, ◌<◌, List, [], ◌∷◌, ◌++◌, length, slice_get, Some}
use Rattle.cell_contract.specs.declared.times.Times.{Times}
use Rattle.cell_contract.specs.declared.times.Known.{Known}
use Rattle.cell_contract.specs.declared.said.Said.{Said}
use Rattle.cell_contract.specs.declared.said.Found.{Found}
use Rattle.cell_contract.specs.Intervals.{no_times, none_known, AreHeeded, IsNextAnswer}
use Rattle.cell_contract.specs.Running.{last_or}

-- what a process wrote to another one, and when
pub record WriteAccesses (T : Type 0) : Type 0 where
  pub items : List T
  pub times : Times

-- what a process read from another one, with the number of each answer among the records written, and
-- when; the writes of which it knows; and what it was told, by the record that each receipt names and by
-- all the writes of which it tells
pub record ReadAccesses (T : Type 0) : Type 0 where
  pub answers : List T
  pub numbers : List ℕ
  pub known : Known T
  pub told : List T
  pub heard : List (Known T)
  pub times : Times

-- each step is later than the one before, and the first is later than this time
abbrev pub RisesAfter : ℕ → List ℕ → Type 0
RisesAfter clock [] = Unit {0}
RisesAfter clock (t ∷ ts) = (clock < t) × RisesAfter t ts

-- *An access*: so many steps more, later than all that the process knew of. With the first of them a call
-- begins, and with the last it ends
pub record IsAccess (width clock clock' : ℕ) (times times' : List ℕ) (old new : Times) : Type 0 where
  pub steps : List ℕ
  pub long : length steps ≡ width
  pub rising : RisesAfter clock steps
  pub made : times' ≡ times ++ steps
  pub first : ℕ
  pub first_is : slice_get steps 0 ≡ Some first
  pub last_is : slice_get steps (width - 1) ≡ Some clock'
  pub begins : new.begins ≡ old.begins ++ first ∷ []
  pub ends : new.ends ≡ old.ends ++ clock' ∷ []

-- *Found*: one step more, later than all that the process knew of, and with it the tag that another one had said
abbrev pub FindsTag : ℕ → ℕ → ℕ → ℕ → List ℕ → List ℕ → List Found → List Found → Type 0
FindsTag from tag clock clock' times times' found found' = (clock < clock') × (times' ≡ times ++ clock' ∷ [])
    × (found' ≡ found ++ record { who = from; tag = tag; time = clock' } ∷ [])

module _ {T : Type 0} where
  -- no calls
  abbrev pub no_writes : WriteAccesses T
  no_writes = record { items = []; times = no_times }

  abbrev pub no_reads : ReadAccesses T
  no_reads = record { answers = []; numbers = []; known = none_known; told = []; heard = []; times = no_times }

  -- a process that has done nothing and knows of nothing
  abbrev pub IsUnused : ℕ → List ℕ → (ℕ → WriteAccesses T) → (ℕ → ReadAccesses T) → List Said → List Found → Type 0
  IsUnused clock times writes reads said found = (clock ≡ 0) × (times ≡ []) × ((j : ℕ) → writes j ≡ no_writes)
      × ((j : ℕ) → reads j ≡ no_reads) × (said ≡ []) × (found ≡ [])

  -- one record more
  pub record IsWriteAccess (old new : WriteAccesses T) (item : T) : Type 0 where
    pub items : new.items ≡ old.items ++ item ∷ []

  -- one answer more. It is the record with its number of the writes that the reader knows of; with these all its
  -- answers are atomic by their intervals. They begin with those of each receipt that it learnt, and the answer is no
  -- older than the last of these
  pub record IsReadAccess (opening : T) (old new : ReadAccesses T) (answer : T) : Type 0 where
    pub answers : new.answers ≡ old.answers ++ answer ∷ []
    pub numbered : IsNextAnswer opening old.known new.known old.numbers new.numbers new.answers new.times answer
    pub told : new.told ≡ old.told
    pub heard : new.heard ≡ old.heard
    pub heeds : AreHeeded new.heard new.known (last_or 0 new.numbers)

  -- no read more, and one record more was told, with the writes up to it
  pub record IsHeardRead (old new : ReadAccesses T) (item : T) (writes : Known T) : Type 0 where
    pub told : new.told ≡ old.told ++ item ∷ []
    pub heard : new.heard ≡ old.heard ++ writes ∷ []
    pub answers : new.answers ≡ old.answers
    pub numbers : new.numbers ≡ old.numbers
    pub known : new.known ≡ old.known
    pub begins : new.times.begins ≡ old.times.begins
    pub ends : new.times.ends ≡ old.times.ends

-- as before, of each process; and of each but this one
abbrev pub KeepsEach : {A : Type 0} → (ℕ → A) → (ℕ → A) → Type 0
KeepsEach old new = (j : ℕ) → new j ≡ old j

abbrev pub KeepsOthers : {A : Type 0} → ℕ → (ℕ → A) → (ℕ → A) → Type 0
KeepsOthers i old new = (j : ℕ) → j ≢ i → new j ≡ old j
