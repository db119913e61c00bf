-- A log of which few operations are kept, from which its verdict is had. This project's own, over precedence after L.
-- Lamport, On Interprocess Communication, 1986.
use Rattle.std.specs.Prelude.{◌≡◌, ℕ, ◌<◌, ◌≤◌, true, List, [], ◌∷◌, length, slice_get, Some, IsSome, IsSomeAnd}
use Rattle.history_core.specs.declared.history.Op.{Op}
use Rattle.history_core.specs.declared.history.Term.{Term}
use Rattle.history_core.specs.declared.history.Kind.TheVariants.{Refused}
use Rattle.history_core.specs.Orders.{is_write}
use Rattle.history_core.specs.Reasons.{counts, OfOneRecord}
use Rattle.history_core.specs.Searches.{AreForwards, WritesOnce}
use Rattle.history_core.specs.declared.thinned.Thinned.{Thinned}

-- two records are the same where their numbers are
abbrev pub Equal : ℕ → ℕ → Type 0
Equal x y = x ≡ y

-- one term from the first operation on
abbrev pub one_term : ℕ → List Term
one_term limit = record { first = 0; limit = limit } ∷ []

module _ {R : Type 0} where
  -- the kept operation at this place has the record of another one
  pub record IsMate (Same : R → R → Type 0) (kept : List (Op R)) (o : Op R) (place : ℕ) (mate : Op R) : Type 0 where
    pub at : slice_get kept place ≡ Some mate
    pub one : OfOneRecord Same o mate

  -- the kept operations are those at rising places of the log; each write is kept; and of the record of each operation
  -- that counts one is kept that counts and begins no earlier, where it is finished one that ends no later, and where
  -- it was refused too a finished refused one
  pub record IsThinned (Same : R → R → Type 0) (log kept : List (Op R)) (places : List ℕ) : Type 0 where
    pub long : length places ≡ length kept
    pub are : (i p : ℕ) (o : Op R) → slice_get places i ≡ Some p → slice_get kept i ≡ Some o → slice_get log p ≡ Some o
    pub rise : (i j p q : ℕ) → i < j → slice_get places i ≡ Some p → slice_get places j ≡ Some q → p < q
    pub writes : (p : ℕ) (o : Op R) → slice_get log p ≡ Some o → is_write o.kind ≡ true →
        (i : ℕ) × (slice_get places i ≡ Some p)
    pub begins : (p : ℕ) (o : Op R) → slice_get log p ≡ Some o → counts o ≡ true →
        (i : ℕ) × (mate : Op R) × IsMate Same kept o i mate × (counts mate ≡ true) × (o.starts ≤ mate.starts)
    pub ends : (p end : ℕ) (o : Op R) → slice_get log p ≡ Some o → o.ends ≡ Some end →
        (i : ℕ) × (mate : Op R) × IsMate Same kept o i mate × IsSomeAnd mate.ends (λ first. first ≤ end)
    pub refused : (p : ℕ) (o : Op R) → slice_get log p ≡ Some o → IsSome o.ends → o.kind ≡ Refused →
        (i : ℕ) × (mate : Op R) × IsMate Same kept o i mate × IsSome mate.ends × (mate.kind ≡ Refused)

-- this is a log thinned, whose records are numbers and 0 the opening: no operation of it ends before it begins, no
-- record is written twice, and the opening isn't written
pub record IsThinnedLog (limit : ℕ) (log : List (Op ℕ)) (thinned : Thinned) : Type 0 where
  pub opening : thinned.history.opening ≡ 0
  pub term : thinned.history.terms ≡ one_term limit
  pub kept : IsThinned Equal log thinned.history.ops thinned.places
  pub forwards : (n : ℕ) → AreForwards log n
  pub once : (n : ℕ) → WritesOnce Equal 0 log n
