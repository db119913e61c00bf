-- Groups of operations: all that is of one record. Group 0 is that of the opening, and group w + 1 that of the write at
-- place w. Only private functions cite this, which is this project's own.
use Rattle.std.specs.Prelude.{◌≡◌, ℕ, ◌+◌, ◌-◌, ◌<◌, ◌≤◌, Bool, true, false, List, length, map, option_map}
use Rattle.std.specs.Prelude.{slice_get, Option, None, Some, IsSome}
use Rattle.std.specs.Prelude.{nat_lt, if◌then◌else◌}
use Rattle.std.specs.Option.{option_and_then}
use Rattle.std.specs.BTreeMap.{BTreeMap, get}
use Rattle.std.specs.declared.cmp.Ordering.{Ordering}
use Rattle.std.specs.declared.cmp.Ordering.TheVariants.{Equal}
use Rattle.std.proofs.Common.{zero, suc}
use Rattle.history_core.specs.declared.history.Op.{Op}
use Rattle.history_core.specs.declared.history.Kind.{Kind}
use Rattle.history_core.specs.declared.history.Kind.TheVariants.{Write, Read, Refused}
use Rattle.history_core.specs.Orders.{is_write}
use Rattle.history_core.specs.declared.reason.SearchError.{SearchError}
use Rattle.history_core.specs.declared.reason.SearchError.TheVariants.{NoMemory, WritesOpening, WritesTwice}
use Rattle.history_search.specs.declared.span.Marks.{Marks}
use Rattle.history_search.specs.declared.span.Moment.{Moment}
use Rattle.history_search.specs.declared.span.Span.{Span}
use Rattle.history_core.specs.Reasons.{counts, IsOfOpening, OfOneRecord}

module _ {R : Type 0} where
  -- the record of an operation is that of this group
  abbrev pub HasGroup : (R → R → Type 0) → R → List (Op R) → ℕ → Op R → Type 0
  HasGroup Same opening ops zero o = IsOfOpening Same opening o
  HasGroup Same opening ops (suc w) o = (a : Op R) × (slice_get ops w ≡ Some a) × (is_write a.kind ≡ true)
      × OfOneRecord Same o a

  -- the record of an operation is neither the opening nor written
  abbrev pub HasNoGroup : (R → R → Type 0) → R → List (Op R) → Op R → Type 0
  HasNoGroup Same opening ops o =
      (IsOfOpening Same opening o → ⊥)
      × ((w : ℕ) (a : Op R) → slice_get ops w ≡ Some a → is_write a.kind ≡ true → OfOneRecord Same o a → ⊥)

  -- the group of an operation that counts, and none of another
  abbrev pub IsGroupOf : (R → R → Type 0) → R → List (Op R) → Op R → Option ℕ → Type 0
  IsGroupOf Same opening ops o None = counts o ≡ true → HasNoGroup Same opening ops o
  IsGroupOf Same opening ops o (Some g) = (counts o ≡ true) × HasGroup Same opening ops g o

  -- the group of each operation
  pub record AreGroups (Same : R → R → Type 0) (opening : R) (ops : List (Op R))
      (groups : List (Option ℕ)) : Type 0 where
    pub long : length groups ≡ length ops
    pub each : (p : ℕ) (o : Op R) (found : Option ℕ) → slice_get ops p ≡ Some o → slice_get groups p ≡ Some found →
        IsGroupOf Same opening ops o found

  -- the operation at this place is of this group
  abbrev pub Member : List (Op R) → List (Option ℕ) → ℕ → Op R → ℕ → Type 0
  Member ops groups p o g = (slice_get ops p ≡ Some o) × (slice_get groups p ≡ Some (Some g))

  -- the earliest end and the latest beginning in a group, among the places below n, and a finished refused write of it
  pub record IsSpan (ops : List (Op R)) (groups : List (Option ℕ)) (n g : ℕ) (span : Span) : Type 0 where
    pub least : (p end : ℕ) (o : Op R) → p < n → Member ops groups p o g → o.ends ≡ Some end →
        (m : Moment) × (span.ends ≡ Some m) × (m.at ≤ end)
    pub ender : (m : Moment) → span.ends ≡ Some m → (o : Op R) × Member ops groups m.place o g × (o.ends ≡ Some m.at)
    pub most : (p : ℕ) (o : Op R) → p < n → Member ops groups p o g →
        (m : Moment) × (span.begins ≡ Some m) × (o.starts ≤ m.at)
    pub beginner : (m : Moment) → span.begins ≡ Some m → (o : Op R) × Member ops groups m.place o g × (o.starts ≡ m.at)
    pub asks : (p : ℕ) (o : Op R) → p < n → Member ops groups p o g → o.kind ≡ Refused → IsSome span.refused
    pub asker : (p : ℕ) → span.refused ≡ Some p → (o : Op R) × Member ops groups p o g × (o.kind ≡ Refused)

  -- the spans of all groups
  pub record AreSpans (ops : List (Op R)) (groups : List (Option ℕ)) (n : ℕ) (spans : List Span) : Type 0 where
    pub long : length spans ≡ length ops + 1
    pub each : (g : ℕ) (span : Span) → slice_get spans g ≡ Some span → IsSpan ops groups n g span

  -- the record that an operation writes, if it does
  abbrev pub written_by : Op R → Option R
  written_by o = if is_write o.kind then o.item else None

  -- the group of each written record among the places below n
  pub record KnowsWrites (cmp : R → R → Ordering) (ops : List (Op R)) (n : ℕ) (writes : BTreeMap R ℕ) : Type 0 where
    pub found : (x : R) (g : ℕ) → get cmp writes x ≡ Some g → (w : ℕ) × (a : Op R) × (y : R) × (g ≡ suc w) × (w < n)
        × (slice_get ops w ≡ Some a) × (is_write a.kind ≡ true) × (a.item ≡ Some y) × (cmp x y ≡ Equal)
    pub known : (w : ℕ) (a : Op R) (x y : R) → w < n → slice_get ops w ≡ Some a →
        is_write a.kind ≡ true → a.item ≡ Some y → cmp x y ≡ Equal → get cmp writes x ≡ Some (suc w)

  -- the group of an operation, found among the written records
  abbrev pub group_in : (R → R → Bool) → (R → R → Ordering) → R → BTreeMap R ℕ → Op R → Option ℕ
  group_in eq cmp opening writes o =
      if counts o then option_and_then (λ x. if eq x opening then Some 0 else get cmp writes x) o.item else None

  -- a write of this record at this place has failed so
  abbrev pub IsWriteFault : (R → R → Bool) → (R → R → Ordering) → R → BTreeMap R ℕ → R → ℕ → SearchError → Type 0
  IsWriteFault eq cmp opening writes record_of place NoMemory = Unit {0}
  IsWriteFault eq cmp opening writes record_of place (WritesOpening p) = (p ≡ place) × (eq record_of opening ≡ true)
  IsWriteFault eq cmp opening writes record_of place (WritesTwice first second) =
      (second ≡ place) × (eq record_of opening ≡ false) × (g : ℕ)
      × (get cmp writes record_of ≡ Some g) × (first ≡ g - 1)
  IsWriteFault eq cmp opening writes record_of place other = ⊥

  -- this finished operation has no group
  abbrev pub IsUngrouped : List (Op R) → List (Option ℕ) → ℕ → Type 0
  IsUngrouped ops groups p = (o : Op R) × (slice_get ops p ≡ Some o) × IsSome o.ends × (slice_get groups p ≡ Some None)

  -- each finished operation at a place below n has a group
  abbrev pub HaveGroups : List (Op R) → List (Option ℕ) → ℕ → Type 0
  HaveGroups ops groups n = (p : ℕ) (o : Op R) → p < n → slice_get ops p ≡ Some o → IsSome o.ends →
      (g : ℕ) × (slice_get groups p ≡ Some (Some g))

-- the earlier of an end and that of the operation at this place
abbrev pub earlier_moment : Option Moment → Option ℕ → ℕ → Option Moment
earlier_moment ends None place = ends
earlier_moment None (Some end) place = Some (record { at = end; place = place })
earlier_moment (Some m) (Some end) place = if nat_lt end m.at then Some (record { at = end; place = place }) else Some m

-- the later of a beginning and that of the operation at this place
abbrev pub later_moment : Option Moment → ℕ → ℕ → Option Moment
later_moment None starts place = Some (record { at = starts; place = place })
later_moment (Some m) starts place = if nat_lt m.at starts then Some (record { at = starts; place = place }) else Some m

abbrev pub refused_at : Option ℕ → Kind → ℕ → Option ℕ
refused_at refused Refused place = Some place
refused_at refused Write place = refused
refused_at refused Read place = refused

-- a span with one more operation
abbrev pub joined_span : {R : Type 0} → Span → Op R → ℕ → Span
joined_span span o place = record {
  ends = earlier_moment span.ends o.ends place;
  begins = later_moment span.begins o.starts place;
  refused = refused_at span.refused o.kind place;
}

abbrev pub empty_span : Span
empty_span = record { ends = None; begins = None; refused = None }

-- the place that stands for no operation: 2^32 - 1
abbrev pub nowhere : ℕ
nowhere = 4294967295

-- when the operation of this place ends and begins, and the place itself, if there is one
abbrev pub ending : {R : Type 0} → Option (Op R) → ℕ → Option Moment
ending None place = None
ending (Some o) place = option_map (λ end. record { at = end; place = place }) o.ends

abbrev pub beginning : {R : Type 0} → Option (Op R) → ℕ → Option Moment
beginning None place = None
beginning (Some o) place = Some (record { at = o.starts; place = place })

abbrev pub found_at : {R : Type 0} → Option (Op R) → ℕ → Option ℕ
found_at None place = None
found_at (Some o) place = Some place

-- the span that marks stand for
abbrev pub span_in : {R : Type 0} → List (Op R) → Marks → Span
span_in ops marks = record {
  ends = ending (slice_get ops marks.ends) marks.ends;
  begins = beginning (slice_get ops marks.begins) marks.begins;
  refused = found_at (slice_get ops marks.refused) marks.refused;
}

abbrev pub spans_in : {R : Type 0} → List (Op R) → List Marks → List Span
spans_in ops spans = map (span_in ops) spans

abbrev pub empty_marks : Marks
empty_marks = record { ends = nowhere; begins = nowhere; refused = nowhere }

-- an end is earlier than the earliest so far, and a beginning later than the latest
abbrev pub ends_first : Option Moment → Option ℕ → Bool
ends_first ends None = false
ends_first None (Some end) = true
ends_first (Some m) (Some end) = nat_lt end m.at

abbrev pub begins_last : Option Moment → ℕ → Bool
begins_last None starts = true
begins_last (Some m) starts = nat_lt m.at starts

abbrev pub is_refused : Kind → Bool
is_refused Refused = true
is_refused Write = false
is_refused Read = false

-- marks with one more operation
abbrev pub joined_marks : {R : Type 0} → List (Op R) → Marks → Op R → ℕ → Marks
joined_marks ops marks o place = record {
  ends = if ends_first (ending (slice_get ops marks.ends) marks.ends) o.ends then place else marks.ends;
  begins = if begins_last (beginning (slice_get ops marks.begins) marks.begins) o.starts then place else marks.begins;
  refused = if is_refused o.kind then place else marks.refused;
}

-- the place of the end, where it is before this moment
abbrev pub ends_before : Option Moment → ℕ → Option ℕ
ends_before None moment = None
ends_before (Some m) moment = if nat_lt m.at moment then Some m.place else None
