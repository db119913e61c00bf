-- What operations are sorted by. Only private functions cite this, which is this project's own.
use Rattle.std.specs.Prelude.{◌≡◌, ℕ, ◌<◌, ◌≤◌, true, not, List, length, slice_get, map, Some}
use Rattle.history_core.specs.declared.history.Op.{Op}
use Rattle.history_core.specs.Orders.{is_write, times_of}
use Rattle.history_coherence.specs.declared.rank.Rank.{Rank}
use Rattle.history_coherence.specs.declared.walk.Mark.{Mark}
use Rattle.history_coherence.specs.declared.walk.Mark.TheVariants.{Placed}
use Rattle.history_coherence.specs.inner.Keys.{number_at}
use Rattle.std.specs.Prelude.{Option}

module _ (log : List (Op ℕ)) (keys : List (Option ℕ)) (marks : List Mark) where
  -- the rank of an operation that has to stand
  pub record IsRankIn (r : Rank) : Type 0 where
    pub op : Op ℕ
    pub key : ℕ
    pub at : slice_get log r.place ≡ Some op
    pub has : number_at keys r.place ≡ Some key
    pub ranked : slice_get marks key ≡ Some (Placed r.rank)
    pub answers : is_write op.kind ≡ not r.answers

  -- the ranks of the places below n, each once
  pub record AreRanksOf (n : ℕ) (ranks : List Rank) : Type 0 where
    pub each : (i : ℕ) (r : Rank) → slice_get ranks i ≡ Some r → IsRankIn r × (r.place < n)
    pub all : (p x : ℕ) → p < n → number_at keys p ≡ Some x →
        (i : ℕ) × (r : Rank) × (slice_get ranks i ≡ Some r) × (r.place ≡ p)
    pub once : (p : ℕ) → times_of p (map (λ r. r.place) ranks) ≤ 1

-- x stands no later than y
pub record StandsNoLater (x y : Rank) : Type 0 where
  pub rank : x.rank ≤ y.rank
  pub answers : x.rank ≡ y.rank → x.answers ≡ true → y.answers ≡ true
  pub place : x.rank ≡ y.rank → x.answers ≡ y.answers → x.place ≤ y.place

abbrev pub AreRanksInOrder : List Rank → Type 0
AreRanksInOrder ranks = (i j : ℕ) (x y : Rank) → slice_get ranks i ≡ Some x → slice_get ranks j ≡ Some y →
    i < j → StandsNoLater x y

-- an order by sorted ranks
abbrev pub IsRanked : List (Op ℕ) → List (Option ℕ) → List Mark → List ℕ → Type 0
IsRanked log keys marks order =
    (ranks : List Rank) × AreRanksOf log keys marks (length log) ranks × AreRanksInOrder ranks
    × (order ≡ map (λ (r : Rank). r.place) ranks)
