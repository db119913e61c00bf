-- What breaks the first broken rule of a lawful order: the first entry or operation that does, where the order before
-- it keeps the rule. The rules stand in Orders; that the first one is told, and how, is this project's own.
use Rattle.std.specs.Prelude.{◌≡◌, ℕ, ◌+◌, ◌<◌, ◌≤◌, true, false, List, length, take, drop, slice_get}
use Rattle.std.specs.Prelude.{Option, None, Some, IsSomeAnd}
use Rattle.history_core.specs.declared.history.Op.{Op}
use Rattle.history_core.specs.declared.history.Term.{Term}
use Rattle.history_core.specs.declared.history.Kind.TheVariants.{Refused}
use Rattle.history_core.specs.declared.history.Verdict.{Verdict}
use Rattle.history_core.specs.declared.history.Verdict.TheVariants as verdict
use Rattle.history_explain.specs.declared.breaks.Break.{Break}
use Rattle.history_explain.specs.declared.breaks.Break.TheVariants.{NoPlace, Times, Precedence, NoItem, Reading, Limit}
use Rattle.history_core.specs.Orders.{EachStands, in_term, is_write_at, KeepsPrecedence, latest, listed_at}
use Rattle.history_core.specs.Orders.{ListsPlaces, MayStand, Precedes}
use Rattle.history_core.specs.Orders.{ReadsLatest, ReadsRight, RefusesLawfully, times_of, writes_in}

-- the rule that this breaks
abbrev pub verdict_of : Option Break → Verdict
verdict_of None = verdict.Lawful
verdict_of (Some (NoPlace entry)) = verdict.Listing
verdict_of (Some (Times place times)) = verdict.Listing
verdict_of (Some (Precedence earlier entry)) = verdict.Precedence
verdict_of (Some (NoItem entry)) = verdict.Reading
verdict_of (Some (Reading entry write)) = verdict.Reading
verdict_of (Some (Limit entry writes)) = verdict.Limit

module _ {R : Type 0} where
  -- this entry is no place, and each before it is one
  pub record IsNoPlace (ops : List (Op R)) (order : List ℕ) (entry : ℕ) : Type 0 where
    pub outside : IsSomeAnd (slice_get order entry) (λ p. length ops ≤ p)
    pub before : ListsPlaces ops (take entry order)

  -- the operation at this place stands this often, which it may not, and each at a lesser
  -- place stands as often as it may
  pub record IsMiscounted (ops : List (Op R)) (order : List ℕ) (place times : ℕ) : Type 0 where
    pub places : ListsPlaces ops order
    pub counted : times ≡ times_of place order
    pub wrong : IsSomeAnd (slice_get ops place) (λ o. ¬ MayStand o.ends o.kind times)
    pub before : EachStands ops order 0 place

  -- an entry before n with this operation, of which none before n begins later, and none before it as late
  pub record IsLastBegun (ops : List (Op R)) (order : List ℕ) (n entry : ℕ) (o : Op R) : Type 0 where
    pub listed : listed_at ops order entry ≡ Some o
    pub within : entry < n
    pub most : (i : ℕ) (a : Op R) → i < n → listed_at ops order i ≡ Some a → a.starts ≤ o.starts
    pub first : (i : ℕ) (a : Op R) → i < entry → listed_at ops order i ≡ Some a → a.starts < o.starts

  -- listing is broken so
  abbrev pub IsListingBreak : List (Op R) → List ℕ → Break → Type 0
  IsListingBreak ops order (NoPlace entry) = IsNoPlace ops order entry
  IsListingBreak ops order (Times place times) = IsMiscounted ops order place times
  IsListingBreak ops order other = ⊥

  -- the operation of this entry precedes that of the earlier one, which of the entries before it began last; and the
  -- order before it keeps precedence
  pub record IsOvertaken (ops : List (Op R)) (order : List ℕ) (earlier entry : ℕ) : Type 0 where
    pub precedes : IsSomeAnd (listed_at ops order earlier)
        (λ a. IsLastBegun ops order entry earlier a × IsSomeAnd (listed_at ops order entry) (λ b. Precedes b a))
    pub before : KeepsPrecedence ops (take entry order)

  -- the last write before this entry, or none
  abbrev pub IsLastWrite : List (Op R) → List ℕ → ℕ → Option ℕ → Type 0
  IsLastWrite ops order entry None = (i : ℕ) → i < entry → is_write_at (listed_at ops order i) ≡ false
  IsLastWrite ops order entry (Some write) =
      (write < entry) × (is_write_at (listed_at ops order write) ≡ true)
      × ((i : ℕ) → write < i → i < entry → is_write_at (listed_at ops order i) ≡ false)

  -- the read or refused write of this entry has another record than the latest, and the entries before it have theirs
  pub record IsMisread (Same : R → R → Type 0) (opening : R) (ops : List (Op R)) (order : List ℕ) (entry : ℕ)
      (write : Option ℕ) : Type 0 where
    pub wrong : IsSomeAnd (listed_at ops order entry)
        (λ o. IsSomeAnd o.item (λ x. ¬ ReadsRight Same o.kind o.item (latest opening ops (take entry order))))
    pub last : IsLastWrite ops order entry write
    pub before : ReadsLatest Same opening ops (take entry order)

  -- the operation of this entry has no item, and the entries before it have the latest
  pub record IsItemless (Same : R → R → Type 0) (opening : R) (ops : List (Op R)) (order : List ℕ)
      (entry : ℕ) : Type 0 where
    pub none : IsSomeAnd (listed_at ops order entry) (λ o. o.item ≡ None)
    pub before : ReadsLatest Same opening ops (take entry order)

  -- reading is broken so
  abbrev pub IsReadingBreak : (R → R → Type 0) → R → List (Op R) → List ℕ → Break → Type 0
  IsReadingBreak Same opening ops order (NoItem entry) = IsItemless Same opening ops order entry
  IsReadingBreak Same opening ops order (Reading entry write) = IsMisread Same opening ops order entry write
  IsReadingBreak Same opening ops order other = ⊥

  -- the write of this entry was refused with so many writes of its term before it, fewer than the limit
  pub record IsRefusedAt (terms : List Term) (ops : List (Op R)) (order : List ℕ) (entry writes : ℕ) : Type 0 where
    pub number : ℕ
    pub term : Term
    pub place : ℕ
    pub is_term : slice_get terms number ≡ Some term
    pub is_place : slice_get order entry ≡ Some place
    pub of_term : in_term term (drop (number + 1) terms) place ≡ true
    pub refused : IsSomeAnd (slice_get ops place) (λ o. o.kind ≡ Refused)
    pub counted : writes ≡ writes_in (in_term term (drop (number + 1) terms)) ops (take entry order)
    pub few : writes < term.limit

  -- the same, and the entries before it are refused lawfully
  pub record IsRefusedEarly (terms : List Term) (ops : List (Op R)) (order : List ℕ) (entry writes : ℕ) : Type 0 where
    pub early : IsRefusedAt terms ops order entry writes
    pub before : RefusesLawfully terms ops (take entry order)

  -- what breaks the rule, and is the first that does
  abbrev pub IsFirstBreak : (R → R → Type 0) → R → List Term → List (Op R) → List ℕ → Break → Type 0
  IsFirstBreak Same opening terms ops order (NoPlace entry) = IsNoPlace ops order entry
  IsFirstBreak Same opening terms ops order (Times place times) = IsMiscounted ops order place times
  IsFirstBreak Same opening terms ops order (Precedence earlier entry) = IsOvertaken ops order earlier entry
  IsFirstBreak Same opening terms ops order (NoItem entry) = IsItemless Same opening ops order entry
  IsFirstBreak Same opening terms ops order (Reading entry write) = IsMisread Same opening ops order entry write
  IsFirstBreak Same opening terms ops order (Limit entry writes) = IsRefusedEarly terms ops order entry writes
