-- What operations are sorted by. Only private functions cite this, which is this project's own.
use Rattle.std.specs.Prelude.{◌≡◌, ℕ, ◌<◌, ◌≤◌, min, Bool, true, false, not, ◌||◌, List, slice_get, map}
use Rattle.std.specs.Prelude.{Option, None, Some, is_some, nat_lt, if◌then◌else◌}
use Rattle.std.specs.Prelude.{IsSomeAnd}
use Rattle.std.specs.Option.{option_and_then}
use Rattle.std.proofs.Common.{zero, suc}
use Rattle.history_core.specs.declared.history.Op.{Op}
use Rattle.history_core.specs.Orders.{is_write, is_write_at, times_of}
use Rattle.history_search.specs.declared.rank.Rank.{Rank}
use Rattle.history_search.specs.declared.span.Moment.{Moment}
use Rattle.history_search.specs.declared.span.Span.{Span}
use Rattle.history_search.specs.inner.Groups.{Member}

abbrev pub moment_at : Option Moment → Option ℕ
moment_at None = None
moment_at (Some m) = Some m.at

abbrev pub moment_or : Option Moment → ℕ
moment_or None = 0
moment_or (Some m) = m.at

-- the earliest end of a group, its latest beginning, and whether a write of it was refused
abbrev pub end_in : Option Span → Option ℕ
end_in None = None
end_in (Some span) = moment_at span.ends

abbrev pub begin_in : Option Span → ℕ
begin_in None = 0
begin_in (Some span) = moment_or span.begins

abbrev pub asks_in : Option Span → Bool
asks_in None = false
asks_in (Some span) = is_some span.refused

-- the earlier of an end and a beginning
abbrev pub first_of : Option ℕ → ℕ → ℕ
first_of None begin = begin
first_of (Some end) begin = min end begin

-- the opening's group is the first
abbrev pub first_in : ℕ → Option Span → ℕ
first_in zero span = 0
first_in (suc w) span = first_of (end_in span) (begin_in span)

abbrev pub last_in : ℕ → Option Span → ℕ
last_in zero span = 0
last_in (suc w) span = begin_in span

abbrev pub is_above : Option ℕ → ℕ → Bool
is_above None begin = false
is_above (Some end) begin = nat_lt end begin

-- a group is late where a write of it was refused, or it begins after this end; the opening's never
abbrev pub is_late : Option ℕ → ℕ → Option Span → Bool
is_late end zero span = false
is_late end (suc w) span = asks_in span || is_above end (begin_in span)

-- where late groups are told apart, and by which end
abbrev pub late_in : Option (Option ℕ) → ℕ → Option Span → Bool
late_in None g span = false
late_in (Some end) g span = is_late end g span

-- a group stands where it has an end; where late groups are told apart, also one that is not late
abbrev pub stands_in : Option (Option ℕ) → ℕ → Option Span → Bool
stands_in None g span = is_some (end_in span)
stands_in (Some end) g span = is_some (end_in span) || not (is_late end g span)

module _ {R : Type 0} (ops : List (Op R)) (groups : List (Option ℕ)) (spans : List Span) (cut : Option (Option ℕ)) where
  -- the rank of an operation of a group that stands
  pub record IsRank (r : Rank) : Type 0 where
    pub op : Op R
    pub member : Member ops groups r.place op r.group
    pub starts : r.starts ≡ op.starts
    pub answers : is_write op.kind ≡ not r.answers
    pub late : r.late ≡ late_in cut r.group (slice_get spans r.group)
    pub first : r.first ≡ first_in r.group (slice_get spans r.group)
    pub last : r.last ≡ last_in r.group (slice_get spans r.group)
    pub wanted : stands_in cut r.group (slice_get spans r.group) ≡ true

  -- the ranks of the places below n, each once
  pub record AreRanks (n : ℕ) (ranks : List Rank) : Type 0 where
    pub each : (i : ℕ) (r : Rank) → slice_get ranks i ≡ Some r → IsRank r × (r.place < n)
    pub all : (p g : ℕ) (o : Op R) → p < n → Member ops groups p o g → stands_in cut g (slice_get spans g) ≡ true →
        (i : ℕ) × (r : Rank) × (slice_get ranks i ≡ Some r) × (r.place ≡ p)
    pub once : (p : ℕ) → times_of p (map (λ r. r.place) ranks) ≤ 1

-- whether an operation has a group that stands
abbrev pub stands_with : Option (Option ℕ) → List Span → Option (Option ℕ) → Bool
stands_with cut spans None = false
stands_with cut spans (Some None) = false
stands_with cut spans (Some (Some g)) = stands_in cut g (slice_get spans g)

-- the group of an operation, or else that of the opening
abbrev pub group_or : Option (Option ℕ) → ℕ
group_or None = 0
group_or (Some None) = 0
group_or (Some (Some g)) = g

abbrev pub starts_of : {R : Type 0} → Option (Op R) → ℕ
starts_of None = 0
starts_of (Some o) = o.starts

-- the rank of the operation at a place
abbrev pub rank_of : {R : Type 0} → List Span → Option (Option ℕ) → ℕ → Option (Op R) → ℕ → Rank
rank_of spans cut g o place = record {
  late = late_in cut g (slice_get spans g);
  first = first_in g (slice_get spans g);
  last = last_in g (slice_get spans g);
  group = g;
  answers = not (is_write_at o);
  starts = starts_of o;
  place = place;
}

abbrev pub rank_in : {R : Type 0} → List (Op R) → List (Option ℕ) → List Span → Option (Option ℕ) → ℕ → Rank
rank_in ops groups spans cut place = rank_of spans cut (group_or (slice_get groups place)) (slice_get ops place) place

abbrev pub ranks_in : {R : Type 0} → List (Op R) → List (Option ℕ) → List Span → Option (Option ℕ) → List ℕ → List Rank
ranks_in ops groups spans cut places = map (rank_in ops groups spans cut) places

-- x stands no later than y
pub record IsNoLater (x y : Rank) : Type 0 where
  pub late : x.late ≡ true → y.late ≡ true
  pub first : x.late ≡ y.late → x.first ≤ y.first
  pub last : x.late ≡ y.late → x.first ≡ y.first → x.last ≤ y.last
  pub group : x.late ≡ y.late → x.first ≡ y.first → x.last ≡ y.last → x.group ≤ y.group
  pub answers : x.late ≡ y.late → x.first ≡ y.first → x.last ≡ y.last → x.group ≡ y.group →
      x.answers ≡ true → y.answers ≡ true
  pub starts : x.late ≡ y.late → x.first ≡ y.first → x.last ≡ y.last → x.group ≡ y.group → x.answers ≡ y.answers →
      x.starts ≤ y.starts

-- in order
abbrev pub AreInOrder : List Rank → Type 0
AreInOrder ranks = (i j : ℕ) (x y : Rank) → slice_get ranks i ≡ Some x → slice_get ranks j ≡ Some y →
    i < j → IsNoLater x y

-- the end of the operation at a place, if it has one
abbrev pub ends_at : {R : Type 0} → List (Op R) → ℕ → Option ℕ
ends_at ops p = option_and_then (λ o. o.ends) (slice_get ops p)

-- the operation of y precedes that of x
abbrev pub IsTurned : {R : Type 0} → List (Op R) → Rank → Rank → Type 0
IsTurned ops x y = IsSomeAnd (ends_at ops y.place) (λ end. end < x.starts)

-- of these ranks none stands before one whose operation precedes its own
abbrev pub NoneTurned : {R : Type 0} → List (Op R) → List Rank → ℕ → Type 0
NoneTurned ops ranks n =
    (i j : ℕ) (x y : Rank) → i < j → j < n → slice_get ranks i ≡ Some x → slice_get ranks j ≡ Some y →
    IsTurned ops x y → ⊥

-- the earlier of two ends, of which either may be missing
abbrev pub earliest : Option ℕ → Option ℕ → Option ℕ
earliest None end = end
earliest (Some x) None = Some x
earliest (Some x) (Some y) = Some (min x y)

-- the earliest end of the late groups, once one more group is known
abbrev pub cut_after : Option ℕ → ℕ → Option Span → Option ℕ
cut_after end g span = if is_late end g span then earliest end (end_in span) else end

-- the one of two ranks that begins later
abbrev pub later_rank : Rank → Rank → Rank
later_rank x y = if nat_lt x.starts y.starts then y else x
