-- The law of a register with one writer and one reader, by the intervals of its calls. Intervals, precedence and
-- regular registers are L. Lamport's, On Interprocess Communication, Parts I and II, Distributed Computing 1, 1986;
-- that each answer has the number of a write is this project's own.
use Rattle.std.specs.Prelude.{◌≡◌, ℕ, ◌+◌, ◌<◌, ◌≤◌, Option, None, Some, List, [], ◌∷◌, length, slice_get}

-- the first time is there, and the second isn't there before it
abbrev pub IsBefore : Option ℕ → Option ℕ → Type 0
IsBefore None b = ⊥
IsBefore (Some a) None = Unit {0}
IsBefore (Some a) (Some b) = a < b

-- the calls of one side: the times at which each begins and ends, none where it doesn't
pub record Intervals : Type 0 where
  pub begins : ℕ → Option ℕ
  pub ends : ℕ → Option ℕ

-- of calls that began and ended at these times
abbrev pub intervals : List ℕ → List ℕ → Intervals
intervals begins ends = record { begins = slice_get begins; ends = slice_get ends }

-- read m has the number n of a write, where the writes have the numbers 1, 2, .., or 0. It is at least that of each
-- write that precedes the read, and the write with it began before the read ended
pub record IsReadOf (writes reads : Intervals) (m n : ℕ) : Type 0 where
  pub late : (k : ℕ) → IsBefore (writes.ends k) (reads.begins m) → k < n
  pub begun : (k : ℕ) → n ≡ k + 1 → IsBefore (writes.begins k) (reads.ends m)

-- *A regular register*: each answer has a number, which is one of its read, and is the record with this number, where
-- the opening has 0. So a read answers the last record written before it, or one that is being written beside it
pub record IsRegular {T : Type 0} (opening : T) (written : List T) (writes : Intervals) (answers : List T)
    (numbers : List ℕ) (reads : Intervals) : Type 0 where
  pub source : (m n : ℕ) (x : T) → slice_get numbers m ≡ Some n → slice_get answers m ≡ Some x →
      slice_get (opening ∷ written) n ≡ Some x
  pub read_of : (m n : ℕ) → slice_get numbers m ≡ Some n → IsReadOf writes reads m n
  pub numbered : length numbers ≡ length answers

-- no write meets read m: the first so many had ended before it began, and no other began before it ended
pub record IsAlone (writes reads : Intervals) (m count : ℕ) : Type 0 where
  pub before : (k : ℕ) → k < count → IsBefore (writes.ends k) (reads.begins m)
  pub after : (k : ℕ) → count ≤ k → IsBefore (writes.begins k) (reads.ends m) → ⊥

-- an instance: one write of 8 over 7, from 1 to 9, and two reads beside it, from 2 to 3 and from 4 to 5
abbrev pub one_long_write : Intervals
one_long_write = intervals (1 ∷ []) (9 ∷ [])

abbrev pub two_short_reads : Intervals
two_short_reads = intervals (2 ∷ 4 ∷ []) (3 ∷ 5 ∷ [])
