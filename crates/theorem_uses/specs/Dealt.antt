-- Consequences of what a new board is, of the accesses of a family's seats, and of one order of
-- all calls (this project's own).
use Rattle.std.specs.Prelude.{◌≡◌, ◌⊎◌, Bool, IsTrue, ℕ, ◌+◌, ◌-◌, ◌<◌, ◌≤◌, List, [], ◌∷◌, ◌++◌, length}
use Rattle.std.specs.Prelude.{slice_get, Some, Ok, Err, Vec}
use Rattle.std.proofs.Common.{Global}
use Rattle.history_core.specs.Others.{other}
use Rattle.history_core.specs.declared.history.Kind.TheVariants.{Write, Read, Refused}
use Rattle.matrix_core.specs.Stamps.{first_stamp, IsBelow}
use Rattle.matrix_core.specs.declared.stamp.Stamped.{Stamped}
use Rattle.cell_contract.specs.declared.said.Said.{Said}
use Rattle.cell_contract.specs.declared.said.Found.{Found}
use Rattle.cell_contract.specs.Accesses.{IsAccess, IsReadAccess, IsUnused, IsWriteAccess, no_reads}
use Rattle.cell_contract.specs.Accesses.{no_writes, ReadAccesses, RisesAfter}
use Rattle.cell_contract.specs.Accesses.{WriteAccesses}
use Rattle.cell_contract.specs.Intervals.{At, HasBegun, IsBy, IsHeard, IsLate}
use Rattle.cell_contract.specs.Rows.{IsReadFrom, IsWriteTo, OneByOne}
use Rattle.cell_contract.specs.Running.{IsAnswer}
use Rattle.cell_contract.specs.declared.family.Family.{Ghosts as FamilyWords}
use Rattle.cell_contract.specs.declared.times.Times.{Times}
use Rattle.board_history.specs.BoardRuns.{Called, Did}
use Rattle.board_history.specs.Histories.{ChoseFrom}
use Rattle.board_history.specs.OneRegister.{AreOfOne, IsOneOrder, Named}
use Rattle.board_live.specs.Deals.{IsNew, OpensWith}
use Rattle.board_live.specs.Records.{Rises}
use Rattle.board_live.specs.declared.board.Board.{Board}
use Rattle.board_live.specs.declared.board.Pass.{Pass}
use Rattle.board_live.specs.declared.deals.BoardError.TheVariants.{Processes, Limit, Opening, NoMemory}
use Rattle.board_live.specs.declared.record.Posted.{Posted}
use Rattle.theorem_uses.specs.Ends.{IsFresh}

module _ {V F S T : Type 0} (words : FamilyWords F (Posted V) S T) (obeys : V → Bool) where
  -- a new board has as many processes as asked for, 2 to 16, the limit and the first record, and
  -- a fresh pass of each process, whose own record is the first
  abbrev pub NewBoardsShow : Type 0
  NewBoardsShow = (n limit : ℕ) (first : Posted V) (board : Board V F S T) (passes : List (Pass V F S T)) (i : ℕ)
      (p : Pass V F S T) → IsNew words obeys n limit first board passes →
      (2 ≤ n) × (n ≤ 16) × (board.processes ≡ n) × (length passes ≡ n)
      × (board.limit ≡ limit) × (1 ≤ limit) × (limit < 18446744073709551615) × (board.first ≡ first)
      × (slice_get passes i ≡ Some p → IsFresh words obeys board i p × (p.own ≡ first))

  -- a new board opens at stamp 0.0; else the first thing that is out of bounds is named, or
  -- nothing is and there is no memory
  abbrev pub OpeningsShow : Type 0
  OpeningsShow = (n limit : ℕ) (opening : V) (r : Board V F S T × Vec (Pass V F S T) Global) →
      (OpensWith words obeys n limit opening (Ok r) →
      IsNew words obeys n limit (record { stamp = first_stamp; item = opening }) r.0 r.1.items)
      × (OpensWith words obeys n limit opening (Err Processes) → 2 ≤ n → n ≤ 16 → ⊥)
      × (OpensWith words obeys n limit opening (Err Limit) → (2 ≤ n) × (n ≤ 16)
      × (1 ≤ limit → limit < 18446744073709551615 → ⊥))
      × (OpensWith words obeys n limit opening (Err Opening) →
      (2 ≤ n) × (n ≤ 16) × (1 ≤ limit) × (limit < 18446744073709551615)
      × (IsTrue (obeys opening) → ⊥))
      × (OpensWith words obeys n limit opening (Err NoMemory) →
      (2 ≤ n) × (n ≤ 16) × (1 ≤ limit) × (limit < 18446744073709551615)
      × IsTrue (obeys opening))

  -- a write to a process is one access of its seat, which adds the record there and nothing elsewhere
  abbrev pub WritesToShow : Type 0
  WritesToShow = (family : F) (item : Posted V) (to j : ℕ) (old new : S) →
      IsWriteTo (words.is_seat family)
      words.who words.clock words.times words.writes words.reads words.said words.found words.width item to old new →
      words.is_seat family new × (words.who new ≡ words.who old)
      × IsAccess words.width (words.clock old) (words.clock new) (words.times old) (words.times new)
      (words.writes old to).times (words.writes new to).times
      × IsWriteAccess (words.writes old to) (words.writes new to) item
      × ((j ≡ to → ⊥) → words.writes new j ≡ words.writes old j)
      × (words.reads new j ≡ words.reads old j)
      × (words.said new ≡ words.said old) × (words.found new ≡ words.found old)

  -- a read of a process is one access of its seat, whose answer is handed on, and adds nothing elsewhere
  abbrev pub ReadsFromShow : Type 0
  ReadsFromShow = (family : F) (opening : Posted V) (from j : ℕ) (old new : S) (before after : List (Posted V)) →
      IsReadFrom (words.is_seat family)
      words.who words.clock words.times words.writes words.reads words.said words.found words.width opening
      (λ x. IsTrue (obeys x.item)) Rises (λ last xs x ys. ys ≡ xs ++ x ∷ []) from (old, before) (new, after) →
      words.is_seat family new × (words.who new ≡ words.who old)
      × IsAccess words.width (words.clock old) (words.clock new) (words.times old) (words.times new)
      (words.reads old from).times (words.reads new from).times
      × ((answer : Posted V) × IsReadAccess opening (words.reads old from) (words.reads new from) answer
      × IsAnswer (λ x. IsTrue (obeys x.item)) Rises opening (words.reads old from).answers
      (words.reads old from).told answer
      × (after ≡ before ++ answer ∷ []))
      × ((j ≡ from → ⊥) → words.reads new j ≡ words.reads old j) × (words.writes new j ≡ words.writes old j)
      × (words.said new ≡ words.said old) × (words.found new ≡ words.found old)

-- an access takes its steps after all that was known, with which a call begins and ends
abbrev pub StepsShow : Type 0
StepsShow = (width clock clock' : ℕ) (times times' : List ℕ) (old new : Times) →
    IsAccess width clock clock' times times' old new →
    (steps : List ℕ) × (first : ℕ) × (length steps ≡ width) × RisesAfter clock steps × (times' ≡ times ++ steps)
    × (slice_get steps 0 ≡ Some first) × (slice_get steps (width - 1) ≡ Some clock')
    × (new.begins ≡ old.begins ++ first ∷ [])
    × (new.ends ≡ old.ends ++ clock' ∷ [])

-- steps rise, from beyond this time
abbrev pub StepsRise : Type 0
StepsRise = (clock t u : ℕ) → RisesAfter clock (t ∷ u ∷ []) → (clock < t) × (t < u)

-- a row of one call more has this call behind the others, and one of none changes nothing
abbrev pub RowsShow : Type 0
RowsShow = (process old new count : ℕ) →
    (OneByOne (λ j a b. b ≡ a + j) process old 0 new → new ≡ old)
    × (OneByOne (λ j a b. b ≡ a + j) process old (count + 1) new →
    (now : ℕ) × OneByOne (λ j a b. b ≡ a + j) process old count now × (new ≡ now + other process count))

-- what a pass knows of ends up to its clock; a late number is above that of each write that had ended; a write with a
-- number has begun; and after a receipt the pass knows of its time
abbrev pub TimesShow : Type 0
TimesShow = (s old new : Times) (begins ends : List ℕ) (time n k t : ℕ) →
    (IsBy s → (At s.begins k t → t ≤ s.clock) × (At s.ends k t → t ≤ s.clock))
    × (IsLate ends time n → At ends k t → t < time → k < n)
    × (HasBegun begins time (k + 1) → (b : ℕ) × At begins k b × (b < time))
    × (IsHeard old new time → (new.begins ≡ old.begins) × (new.ends ≡ old.ends) × (old.clock ≤ new.clock)
    × (time ≤ new.clock))

module _ (V : Type 0) where
  -- a seat that is unused has made no step, no write and no read, and has said and found nothing
  abbrev pub UnusedShow : Type 0
  UnusedShow = (clock j : ℕ) (times : List ℕ) (writes : ℕ → WriteAccesses V) (reads : ℕ → ReadAccesses V)
      (said : List Said) (found : List Found) → IsUnused clock times writes reads said found →
      (clock ≡ 0) × (times ≡ []) × (writes j ≡ no_writes) × (reads j ≡ no_reads) × (said ≡ []) × (found ≡ [])

  -- what a call chose is the first record, or that of a write
  abbrev pub SourcesShow : Type 0
  SourcesShow = (n : ℕ) (first : Stamped V) (did : ℕ → Did V) (c : Called V) → ChoseFrom n first did c →
      (c.chosen ≡ first)
      ⊎ ((j : ℕ) × (m : ℕ) × (w : Called V) × (j < n) × (slice_get (did j).calls m ≡ Some w) × (w.kind ≡ Write)
      × (c.chosen ≡ w.chosen))

  -- one register takes a write by holding it, under a greater stamp of its process; a read by giving what it holds; and
  -- it refuses a write, after as many writes as the limit, by giving what it holds
  abbrev pub OneRegisterShows : Type 0
  OneRegisterShows = (limit writes : ℕ) (now last : Stamped V) (m : Named V) →
      (AreOfOne limit now writes last [] → last ≡ now)
      × (AreOfOne limit now writes last (m ∷ []) →
      (m.call.kind ≡ Write → IsBelow now.stamp m.call.chosen.stamp × (m.call.chosen.stamp.writer ≡ m.who)
      × (last ≡ m.call.chosen))
      × (m.call.kind ≡ Read → (m.call.chosen ≡ now) × (last ≡ now))
      × (m.call.kind ≡ Refused → (m.call.chosen ≡ now) × (limit ≤ writes) × (last ≡ now)))

  -- one order of all calls has each of them and no others, keeps their sequence and their
  -- intervals, and is one register's
  abbrev pub OneOrderShows : Type 0
  OneOrderShows = (n limit : ℕ) (first last : Stamped V) (did : ℕ → Did V) (order : List (Named V))
      (x y : ℕ) (a b : Named V) (i k : ℕ) (c : Called V) → IsOneOrder n limit first did last order →
      (slice_get order x ≡ Some a → (a.who < n) × (slice_get (did a.who).calls a.number ≡ Some a.call))
      × (i < n → slice_get (did i).calls k ≡ Some c →
      (x : ℕ) × (slice_get order x ≡ Some (record { who = i; number = k; call = c })))
      × (x < y → slice_get order x ≡ Some a → slice_get order y ≡ Some b → a.who ≡ b.who → a.number < b.number)
      × (slice_get order x ≡ Some a → slice_get order y ≡ Some b → a.call.end < b.call.begin → x < y)
      × AreOfOne limit first 0 last order
