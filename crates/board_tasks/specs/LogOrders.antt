-- The logs of tasks in one order, by what they say alone (this project's own).
use Rattle.std.specs.Prelude.{◌≡◌, ℕ, ◌+◌, ◌<◌, ◌≤◌, Bool, List, [], ◌∷◌, length, map, slice_get, Some, nat_eq}
use Rattle.std.specs.List.{filter}
use Rattle.history_core.specs.declared.wish.Wish.{Wish}
use Rattle.history_core.specs.declared.wish.Wish.TheVariants.{Write, Read}
use Rattle.matrix_core.specs.Choices.{IsIn}
use Rattle.matrix_core.specs.Stamps.{IsBelow, first_stamp}
use Rattle.board_live.specs.declared.record.Posted.{Posted}
use Rattle.board_tasks.specs.declared.lane.Reply.{Reply}
use Rattle.board_tasks.specs.declared.lane.Reply.TheVariants.{Written, Seen, Ended}
use Rattle.board_tasks.specs.declared.lane.Entry.{Entry}

-- an entry, and the task whose log has it
pub record Noted (V : Type 0) : Type 0 where
  pub task : ℕ
  pub entry : Entry V

module _ {V : Type 0} where
  abbrev pub is_of : ℕ → Noted V → Bool
  is_of task n = nat_eq n.task task

  -- the entries of one task
  abbrev pub entries_of : ℕ → List (Noted V) → List (Entry V)
  entries_of task order = map (λ n. n.entry) (filter (is_of task) order)

  -- what one register does at an entry, which holds this record and has taken so many writes. A write puts its item
  -- there, under a greater stamp that names its task; a read has the record that is there; a write is refused only
  -- after as many writes as the limit, and has that record
  abbrev pub RegisterTakesEntry : ℕ → ℕ → Posted V → ℕ → Wish V → Reply V → (Posted V → ℕ → Type 0) → Type 0
  RegisterTakesEntry limit task now writes (Write item) (Written s) rest =
      IsBelow now.stamp s × (s.writer ≡ task) × rest (record { stamp = s; item = item }) (writes + 1)
  RegisterTakesEntry limit task now writes (Write item) (Seen p) rest = ⊥
  RegisterTakesEntry limit task now writes (Write item) (Ended p) rest = (p ≡ now) × (limit ≤ writes) × rest now writes
  RegisterTakesEntry limit task now writes Read (Written s) rest = ⊥
  RegisterTakesEntry limit task now writes Read (Seen p) rest = (p ≡ now) × rest now writes
  RegisterTakesEntry limit task now writes Read (Ended p) rest = ⊥

  -- the entries are those of one register that is called in this order, and in the end it holds this record
  abbrev pub AreEntriesOfOne : ℕ → Posted V → ℕ → Posted V → List (Noted V) → Type 0
  AreEntriesOfOne limit now writes last [] = last ≡ now
  AreEntriesOfOne limit now writes last (n ∷ ns) = RegisterTakesEntry limit n.task now writes n.entry.wish n.entry.reply
      (λ p m. AreEntriesOfOne limit p m last ns)

  -- an order of logs: of each task it has the entries of its log, in their order, and it has no others; they are those
  -- of one register, which holds the opening at stamp 0.0 first, and this record in the end
  pub record IsLogOrder (opening : V) (limit : ℕ) (logs : List (List (Entry V))) (last : Posted V)
      (order : List (Noted V)) : Type 0 where
    pub each : (task : ℕ) (log : List (Entry V)) → slice_get logs task ≡ Some log → entries_of task order ≡ log
    pub only : (n : Noted V) → IsIn n order → n.task < length logs
    pub one : AreEntriesOfOne limit (record { stamp = first_stamp; item = opening }) 0 last order

  -- *One order* of the logs: they have one
  abbrev pub LogsInOrder : V → ℕ → List (List (Entry V)) → Posted V → Type 0
  LogsInOrder opening limit logs last = (order : List (Noted V)) × IsLogOrder opening limit logs last order
