-- How a search came to its answer. Only private functions cite this, which is this project's own; what the
-- answer means stands in Searches.
use Rattle.std.specs.Prelude.{◌≡◌, ℕ, ◌<◌, ◌≤◌, List, [], ◌∷◌, length, map, slice_get, Option, None, Some, ◌⊎◌}
use Rattle.std.proofs.Common.{suc}
use Rattle.history_core.specs.declared.history.Op.{Op}
use Rattle.history_search.specs.declared.rank.Rank.{Rank}
use Rattle.history_core.specs.declared.reason.Reason.{Reason}
use Rattle.history_core.specs.declared.reason.Reason.TheVariants.{Unwritten, Early, Stale, Crossed, Limit}
use Rattle.history_core.specs.declared.reason.Search.{Search}
use Rattle.history_core.specs.declared.reason.Search.TheVariants.{Order, Unlawful}
use Rattle.history_search.specs.declared.span.Moment.{Moment}
use Rattle.history_search.specs.declared.span.Span.{Span}
use Rattle.history_search.specs.inner.Groups.{AreSpans, ends_before, HaveGroups, IsUngrouped}
use Rattle.history_search.specs.inner.Limits.{IsFirstRefusal, NoneRefused}
use Rattle.history_search.specs.inner.Ranks.{AreInOrder, AreRanks, cut_after, IsTurned, NoneTurned}

-- the place of a group's earliest end, and of its latest beginning
abbrev pub place_or : Option Moment → ℕ
place_or None = 0
place_or (Some m) = m.place

abbrev pub end_place : Option Span → ℕ
end_place None = 0
end_place (Some span) = place_or span.ends

abbrev pub begin_place : Option Span → ℕ
begin_place None = 0
begin_place (Some span) = place_or span.begins

abbrev pub refused_in : Option Span → Option ℕ
refused_in None = None
refused_in (Some span) = span.refused

-- the crossing of two groups
abbrev pub crossing_of : Option Span → Option Span → Reason
crossing_of one other = Crossed (end_place one) (begin_place other) (end_place other) (begin_place one)

-- the earliest end of the late groups, from the sorted ranks
abbrev pub cut_by : List Span → Option ℕ → List Rank → Option ℕ
cut_by spans end [] = end
cut_by spans end (r ∷ ranks) = cut_by spans (cut_after end r.group (slice_get spans r.group)) ranks

-- the place of the end of a group but the opening's, where that is before this moment
abbrev pub EndsBefore : List Span → ℕ → ℕ → Type 0
EndsBefore spans moment before =
    (w : ℕ) × (span : Span) × (slice_get spans (suc w) ≡ Some span) × (ends_before span.ends moment ≡ Some before)

abbrev pub NoneEndsBefore : List Span → ℕ → Type 0
NoneEndsBefore spans moment = (w : ℕ) (span : Span) → slice_get spans (suc w) ≡ Some span →
    ends_before span.ends moment ≡ None

-- this operation of another group ends before this one of the opening begins
abbrev pub IsStaleIn : List Span → ℕ → ℕ → Type 0
IsStaleIn spans before read =
    (opened : Span) × (m : Moment) × (slice_get spans 0 ≡ Some opened) × (opened.begins ≡ Some m)
    × EndsBefore spans m.at before
    × (m.place ≡ read)

abbrev pub NoneStaleIn : List Span → Type 0
NoneStaleIn spans = (opened : Span) (m : Moment) → slice_get spans 0 ≡ Some opened → opened.begins ≡ Some m →
    NoneEndsBefore spans m.at

-- an order whose first refused write has enough writes before it, if it has one
abbrev pub HasEnough : {R : Type 0} → List (Op R) → List ℕ → ℕ → Type 0
HasEnough ops order limit = NoneRefused ops order (length order)
    ⊎ ((c : ℕ) × (place : ℕ) × (writes : ℕ) × IsFirstRefusal ops order c place writes × (limit ≤ writes))

-- an order whose first refused write has too few
abbrev pub HasTooFew : {R : Type 0} → List (Op R) → List ℕ → ℕ → ℕ → Type 0
HasTooFew ops order limit place = (c : ℕ) × (writes : ℕ) × IsFirstRefusal ops order c place writes × (writes < limit)

-- this operation ends before the write of its group begins
abbrev pub IsEarlyIn : {R : Type 0} → List (Op R) → List Span → ℕ → ℕ → Type 0
IsEarlyIn {R} ops spans read w = (a : Op R) × (span : Span) × (slice_get ops w ≡ Some a)
    × (slice_get spans (suc w) ≡ Some span)
    × (ends_before span.ends a.starts ≡ Some read)

abbrev pub NoneEarlyIn : {R : Type 0} → List (Op R) → List Span → ℕ → Type 0
NoneEarlyIn {R} ops spans n = (w : ℕ) (a : Op R) (span : Span) → w < n → slice_get ops w ≡ Some a →
    slice_get spans (suc w) ≡ Some span → ends_before span.ends a.starts ≡ None

module _ {R : Type 0} (ops : List (Op R)) (groups : List (Option ℕ)) where
  -- the groups and spans of a history in which each read has its write before it
  pub record IsPrepared (spans : List Span) : Type 0 where
    pub all : HaveGroups ops groups (length ops)
    pub spanned : AreSpans ops groups (length ops) spans
    pub early : NoneEarlyIn ops spans (length ops)
    pub stale : NoneStaleIn spans

  -- sorted ranks
  pub record AreSorted (spans : List Span) (cut : Option (Option ℕ)) (ranks : List Rank) : Type 0 where
    pub are : AreRanks ops groups spans cut (length ops) ranks
    pub in_order : AreInOrder ranks

  -- two groups cross
  pub record IsCrossing (spans : List Span) (reason : Reason) : Type 0 where
    pub ranks : List Rank
    pub sorted : AreSorted spans None ranks
    pub i : ℕ
    pub j : ℕ
    pub x : Rank
    pub y : Rank
    pub at_x : slice_get ranks i ≡ Some x
    pub at_y : slice_get ranks j ≡ Some y
    pub turned : IsTurned ops x y
    pub before : i < j
    pub found : reason ≡ crossing_of (slice_get spans x.group) (slice_get spans y.group)

  -- no two groups cross, in the sorted ranks
  pub record AreStraight (spans : List Span) (ranks : List Rank) : Type 0 where
    pub sorted : AreSorted spans None ranks
    pub none : NoneTurned ops ranks (length ranks)

  -- the order with the late groups last
  pub record IsLateOrder (spans : List Span) (order : List ℕ) : Type 0 where
    pub straight : List Rank
    pub are_straight : AreStraight spans straight
    pub unasked : refused_in (slice_get spans 0) ≡ None
    pub ranks : List Rank
    pub sorted : AreSorted spans (Some (cut_by spans None straight)) ranks
    pub is : order ≡ map (λ r. r.place) ranks

  -- an order of groups
  abbrev pub IsGroupOrder : List Span → ℕ → List ℕ → Type 0
  IsGroupOrder spans limit order =
      (((ranks : List Rank) × AreStraight spans ranks × (order ≡ map (λ r. r.place) ranks)) ⊎ IsLateOrder spans order)
      × HasEnough ops order limit

  -- why there is none
  abbrev pub IsGroupLimit : List Span → ℕ → ℕ → Type 0
  IsGroupLimit spans limit place =
      ((ranks : List Rank) × AreStraight spans ranks × (0 < limit) × (refused_in (slice_get spans 0) ≡ Some place))
      ⊎ ((order : List ℕ) × IsLateOrder spans order × HasTooFew ops order limit place)

  -- the answer that groups and spans give
  abbrev pub IsGroupSearch : List Span → ℕ → Search → Type 0
  IsGroupSearch spans limit (Order order) = IsGroupOrder spans limit order
  IsGroupSearch spans limit (Unlawful (Limit place)) = IsGroupLimit spans limit place
  IsGroupSearch spans limit (Unlawful (Unwritten read)) = ⊥
  IsGroupSearch spans limit (Unlawful (Early read write)) = ⊥
  IsGroupSearch spans limit (Unlawful (Stale before read)) = ⊥
  IsGroupSearch spans limit (Unlawful (Crossed a b c d)) = IsCrossing spans (Crossed a b c d)

  -- the answer, and how it was found
  abbrev pub IsFound : ℕ → Search → Type 0
  IsFound limit (Order order) = (spans : List Span) × IsPrepared spans × IsGroupSearch spans limit (Order order)
  IsFound limit (Unlawful (Unwritten read)) = IsUngrouped ops groups read
  IsFound limit (Unlawful (Early read write)) =
      (spans : List Span) × HaveGroups ops groups (length ops) × AreSpans ops groups (length ops) spans
      × IsEarlyIn ops spans read write
  IsFound limit (Unlawful (Stale before read)) =
      (spans : List Span) × HaveGroups ops groups (length ops) × AreSpans ops groups (length ops) spans
      × NoneEarlyIn ops spans (length ops) × IsStaleIn spans before read
  IsFound limit (Unlawful (Crossed a b c d)) =
      (spans : List Span) × IsPrepared spans × IsGroupSearch spans limit (Unlawful (Crossed a b c d))
  IsFound limit (Unlawful (Limit place)) = (spans : List Span) × IsPrepared spans
      × IsGroupSearch spans limit (Unlawful (Limit place))
