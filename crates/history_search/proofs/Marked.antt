-- The spans that marks stand for.
use Rattle.std.proofs.Common.{◌≡◌, ℕ, zero, suc, ◌<◌, ◌≤◌, Bool, true, false, List, ◌∷◌, length, replicate, refl, ◌∙◌}
use Rattle.std.proofs.Common.{ap, get_or, set, slice_get, Option, None, Some}
use Rattle.std.specs.Prelude.{nat_lt, option_map, if◌then◌else◌}
use Rattle.std.proofs.lemmas.List.{length-map, map-set}
use Rattle.std.proofs.lemmas.Option.{slice_get-get_or, slice_get-map, slice_get_past}
use Rattle.history_core.specs.declared.history.Op.{Op}
use Rattle.history_core.specs.declared.history.Kind.{Kind}
use Rattle.history_core.specs.declared.history.Kind.TheVariants.{Write, Read, Refused}
use Rattle.history_search.specs.declared.span.Marks.{Marks}
use Rattle.history_search.specs.declared.span.Moment.{Moment}
use Rattle.history_search.specs.declared.span.Span.{Span}
use Rattle.history_search.specs.inner.Groups.{beginning, begins_last, earlier_moment, empty_marks, empty_span, ending, ends_first, found_at}
use Rattle.history_search.specs.inner.Groups.{is_refused, joined_marks, joined_span, later_moment, nowhere, refused_at, span_in, spans_in}

-- the marks that an index beyond the end has in a goal
abbrev pub no_marks : Marks
no_marks = record { ends = 0; begins = 0; refused = 0 }

module _ {R : Type 0} (ops : List (Op R)) where
  pub spans_long : (spans : List Marks) → length (spans_in ops spans) ≡ length spans
  spans_long spans = length-map spans (span_in ops)

  -- the span of a group that has marks
  pub span_there : (spans : List Marks) (g : ℕ) (default : Marks) → g < length spans →
      slice_get (spans_in ops spans) g ≡ Some (span_in ops (get_or spans g default))
  span_there spans g default l =
      slice_get-map (span_in ops) spans g ∙ ap (option_map (span_in ops)) (slice_get-get_or spans g default l)

  none_empty : length ops ≤ nowhere → span_in ops empty_marks ≡ empty_span
  none_empty few =
      let none : slice_get ops nowhere ≡ None = slice_get_past ops nowhere few in
      ap (λ (o : Option (Op R)). record {
        ends = ending o nowhere;
        begins = beginning o nowhere;
        refused = found_at o nowhere;
      }) none

  map_replicate : (n : ℕ) (marks : Marks) (span : Span) → span_in ops marks ≡ span →
      spans_in ops (replicate n marks) ≡ replicate n span
  map_replicate zero marks span e = refl
  map_replicate (suc n) marks span e =
      ap (λ (s : Span). s ∷ spans_in ops (replicate n marks)) e ∙ ap (λ (l : List Span). span ∷ l) (map_replicate n marks span e)

  pub spans_empty : (n : ℕ) → length ops ≤ nowhere → spans_in ops (replicate n empty_marks) ≡ replicate n empty_span
  spans_empty n few = map_replicate n empty_marks empty_span (none_empty few)

  -- ---- one more operation
  module _ (o : Op R) (place : ℕ) (at : slice_get ops place ≡ Some o) where
    ends_here : (kept end : ℕ) → o.ends ≡ Some end → ending (slice_get ops place) place ≡ Some (record { at = end; place = place })
    ends_here kept end e =
        ap (λ (z : Option (Op R)). ending z place) at ∙ ap (option_map (λ (x : ℕ). record { at = x; place = place })) e

    ends_by : (kept : ℕ) (m : Option Moment) (end : Option ℕ) → ending (slice_get ops kept) kept ≡ m → o.ends ≡ end →
        ending (slice_get ops (if ends_first m end then place else kept)) (if ends_first m end then place else kept)
        ≡ earlier_moment m end place
    ends_by kept None None k e = k
    ends_by kept (Some m) None k e = k
    ends_by kept None (Some end) k e = ends_here kept end e
    ends_by kept (Some m) (Some end) k e = by (nat_lt end m.at)
      where
        by : (b : Bool) → ending (slice_get ops (if b then place else kept)) (if b then place else kept)
            ≡ (if b then Some (record { at = end; place = place }) else Some m)
        by true = ends_here kept end e
        by false = k

    begins_here : beginning (slice_get ops place) place ≡ Some (record { at = o.starts; place = place })
    begins_here = ap (λ (z : Option (Op R)). beginning z place) at

    begins_by : (kept : ℕ) (m : Option Moment) → beginning (slice_get ops kept) kept ≡ m →
        beginning (slice_get ops (if begins_last m o.starts then place else kept)) (if begins_last m o.starts then place else kept)
        ≡ later_moment m o.starts place
    begins_by kept None k = begins_here
    begins_by kept (Some m) k = by (nat_lt m.at o.starts)
      where
        by : (b : Bool) → beginning (slice_get ops (if b then place else kept)) (if b then place else kept)
            ≡ (if b then Some (record { at = o.starts; place = place }) else Some m)
        by true = begins_here
        by false = k

    refused_by : (kept : ℕ) (kind : Kind) →
        found_at (slice_get ops (if is_refused kind then place else kept)) (if is_refused kind then place else kept)
        ≡ refused_at (found_at (slice_get ops kept) kept) kind place
    refused_by kept Refused = ap (λ (z : Option (Op R)). found_at z place) at
    refused_by kept Write = refl
    refused_by kept Read = refl

    pub joined_is : (marks : Marks) → span_in ops (joined_marks ops marks o place) ≡ joined_span (span_in ops marks) o place
    joined_is marks =
        let e = ends_by marks.ends (ending (slice_get ops marks.ends) marks.ends) o.ends refl refl in
        let b = begins_by marks.begins (beginning (slice_get ops marks.begins) marks.begins) refl in
        let r = refused_by marks.refused o.kind in
        ap (λ (z : Option Moment). record {
          ends = z;
          begins = (span_in ops (joined_marks ops marks o place)).begins;
          refused = (span_in ops (joined_marks ops marks o place)).refused;
        }) e
        ∙ ap (λ (z : Option Moment). record {
          ends = earlier_moment (ending (slice_get ops marks.ends) marks.ends) o.ends place;
          begins = z;
          refused = (span_in ops (joined_marks ops marks o place)).refused;
        }) b
        ∙ ap (λ (z : Option ℕ). record {
          ends = earlier_moment (ending (slice_get ops marks.ends) marks.ends) o.ends place;
          begins = later_moment (beginning (slice_get ops marks.begins) marks.begins) o.starts place;
          refused = z;
        }) r

    pub spans_set : (spans : List Marks) (g : ℕ) (default : Marks) →
        spans_in ops (set spans g (joined_marks ops (get_or spans g default) o place))
        ≡ set (spans_in ops spans) g (joined_span (span_in ops (get_or spans g default)) o place)
    spans_set spans g default =
        map-set (span_in ops) spans g (joined_marks ops (get_or spans g default) o place)
        ∙ ap (λ (s : Span). set (spans_in ops spans) g s) (joined_is (get_or spans g default))
