-- What the sides of a cell do in rounds, by the lists of their passes (this project's own).
use Rattle.std.specs.Prelude.{◌≡◌, ℕ, ◌+◌, List, [], ◌∷◌, ◌++◌, length, Option}
use Rattle.cell_contract.specs.declared.cell.Calls.{Ghosts as CellWords}
use Rattle.cell_contract.specs.Running.{last_or}
use Rattle.soak_rounds.specs.declared.finding.Tally.{Tally}
use Rattle.soak_rounds.specs.Findings.{counted, last_read, no_tally, with_end, with_read, with_tally, with_write}
use Rattle.soak_rounds.specs.Records.{AreOf, IsWholeRecord}

-- `words` are those of a record
module _ {X : Type 0} (words : X → List ℕ) where
  -- records that were written after the write `last`, each with the next number, how they were
  -- counted, and the number of the last
  pub data Wrote (last : ℕ) : List X → Tally → ℕ → Type 0 where
    no_write : Wrote last [] no_tally last
    one_write : (xs : List X) (t : Tally) (n : ℕ) (x : X) → Wrote last xs t n → IsWholeRecord (words x) (counted n 1)
        → Wrote last (xs ++ x ∷ []) (with_write t) (counted n 1)

  -- records that were read after one of the write `last`, how they were counted, and the
  -- last write of which one was read
  pub data NotedReads (last : ℕ) : List X → Tally → ℕ → Type 0 where
    no_read : NotedReads last [] no_tally last
    one_read : (xs : List X) (t : Tally) (n : ℕ) (x : X) (number : Option ℕ) → NotedReads last xs t n →
        AreOf (words x) number → NotedReads last (xs ++ x ∷ []) (with_read t n number) (last_read n number)

-- a list got so many more, of which this holds with what was counted and the last number
pub record Adds {X : Type 0} (Of : List X → Tally → ℕ → Type 0) (count : ℕ) (old new : List X) (tally : Tally)
    (last : ℕ) : Type 0 where
  pub added : List X
  pub more : new ≡ old ++ added
  pub all : length added ≡ count
  pub of : Of added tally last

module _ {X C P G T : Type 0} (words : X → List ℕ) (cells : CellWords C X P G T) (calls : ℕ) where
  -- the reader was told of the record that the writer wrote last; nothing was written or read
  pub record HasHeardOfLast (cell : C) (p q : P) (g h : G) : Type 0 where
    pub wrote : cells.written q ≡ cells.written p
    pub read : cells.answers h ≡ cells.answers g
    pub told : cells.told h ≡ cells.told g ++ last_or (cells.opening cell) (cells.written p) ∷ []

  -- rounds with two passes of a cell: in each the reader was told of the last write, and then the one wrote
  -- so many records and the other read so many after that write. What was counted in them, and the last
  -- numbers that were written and read
  pub data Rounds (cell : C) (put : P) (get : G) : ℕ → P → G → ℕ → ℕ → Tally → Type 0 where
    no_round : Rounds cell put get 0 put get 0 0 no_tally
    one_round : (n : ℕ) (o p q : P) (f g h : G) (w x r s : ℕ) (t a b : Tally) →
        Rounds cell put get n o f w r t → HasHeardOfLast cell o p f g
        → Adds (Wrote words w) calls (cells.written p) (cells.written q) a x
        → Adds (NotedReads words w) calls (cells.answers g) (cells.answers h) b s
        → Rounds cell put get (n + 1) q h x s (with_tally t (with_end (with_tally b a) x s))

  -- so many rounds with the passes of one cell, since they were new
  pub record HasSoaked (count : ℕ) (tally : Tally) : Type 0 where
    pub cell : C
    pub puts : P × P
    pub gets : G × G
    pub last : ℕ × ℕ
    pub of : cells.is_put cell puts.1 × cells.is_get cell gets.1
    pub new : (cells.written puts.0 ≡ []) × (cells.answers gets.0 ≡ [])
    pub rounds : Rounds cell puts.0 gets.0 count puts.1 gets.1 last.0 last.1 tally
