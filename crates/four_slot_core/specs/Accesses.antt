-- The accesses of one cell as intervals of positions (L. Lamport, On Interprocess Communication, Parts I and II,
-- Distributed Computing 1, 1986): when the slot accesses are clear of each other, and which reads are fresh. Only the
-- order of the positions counts.
use Rattle.std.specs.Prelude.{◌≡◌, ℕ, ◌+◌, ◌<◌, ◌≤◌, Option, Some, IsSome, ◌⊎◌}
use Rattle.history_core.specs.Registers.{Intervals, IsBefore, IsReadOf}

-- the accesses of one side: the position of each event of each access (W1 and R1 are event 0), none where it isn't
-- made; and the slot of each access, none where it isn't chosen
pub record Accesses : Type 0 where
  pub at : ℕ → ℕ → Option ℕ
  pub slot : ℕ → Option ℕ

-- both are chosen, and the same
abbrev pub IsSameSlot : Option ℕ → Option ℕ → Type 0
IsSameSlot a b = (slot : ℕ) × (a ≡ Some slot) × (b ≡ Some slot)

-- clear: of a slot write, from W2 to W3, and a slot read of the same slot, from R4 to R5, one
-- ends before the other begins
abbrev pub IsClear : Accesses → Accesses → Type 0
IsClear writer reader =
    (k m : ℕ) → IsSameSlot (writer.slot k) (reader.slot m) → IsSome (writer.at k 1) → IsSome (reader.at m 3) →
    IsBefore (writer.at k 2) (reader.at m 3) ⊎ IsBefore (reader.at m 4) (writer.at k 1)

-- write k filled the slot of read m before that read entered it: its W3 comes before the read's R4
abbrev pub Fills : Accesses → Accesses → ℕ → ℕ → Type 0
Fills writer reader k m = IsSameSlot (writer.slot k) (reader.slot m) × IsBefore (writer.at k 2) (reader.at m 3)

-- the number of a read's source, where the writes have the numbers 1, 2, .. and the opening 0: that of the last
-- write that filled the slot before
pub record IsSource (writer reader : Accesses) (m n : ℕ) : Type 0 where
  pub above : (k : ℕ) → Fills writer reader k m → k < n
  pub filled : (k : ℕ) → n ≡ k + 1 → Fills writer reader k m

-- the accesses as calls: a write from W1 to W5, a read from R1 to R5
abbrev pub as_calls : Accesses → Intervals
as_calls a = record { begins = λ k. a.at k 0; ends = λ k. a.at k 4 }

-- a finished read with this source is fresh
pub record IsFreshRead (writer reader : Accesses) (m n : ℕ) : Type 0 where
  pub source : IsSource writer reader m n
  -- it has its number by the law of registers, and this is at least that of each earlier read
  pub read_of : IsReadOf (as_calls writer) (as_calls reader) m n
  pub reads : (j i : ℕ) → j < m → IsSource writer reader j i → i ≤ n

-- accesses of two descriptions that are the same: of each access the five events and the slot agree
pub record Agree (a b : Accesses) : Type 0 where
  pub at : (k e : ℕ) → e < 5 → a.at k e ≡ b.at k e
  pub slot : (k : ℕ) → a.slot k ≡ b.slot k
