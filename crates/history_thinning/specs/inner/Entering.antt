-- How one more operation is entered. Only private functions cite this, which is this project's own.
use Rattle.std.specs.Prelude.{◌≡◌, ℕ, Bool, true, false, List, slice_get, Option, None, Some}
use Rattle.std.specs.Prelude.{nat_eq, nat_lt, if◌then◌else◌, ◌⊎◌}
use Rattle.std.specs.Option.{option_and_then, option_map}
use Rattle.history_core.specs.declared.history.Op.{Op}
use Rattle.history_core.specs.declared.history.Kind.{Kind}
use Rattle.history_core.specs.declared.history.Kind.TheVariants.{Write, Read, Refused}
use Rattle.history_core.specs.Reasons.{counts}
use Rattle.history_core.specs.declared.reason.SearchError.{SearchError}
use Rattle.history_core.specs.declared.reason.SearchError.TheVariants.{Backwards, WritesOpening, WritesTwice}
use Rattle.history_core.specs.Orders.{is_write}
use Rattle.history_thinning.specs.declared.group.Placed.{Placed}
use Rattle.history_thinning.specs.declared.group.Roles.{Roles}
use Rattle.history_thinning.specs.inner.Kept.{Group, nowhere}

abbrev pub is_backwards : ℕ → Option ℕ → Bool
is_backwards starts None = false
is_backwards starts (Some end) = nat_lt end starts

abbrev pub written_number : Kind → Option ℕ → Option ℕ
written_number Write item = item
written_number Read item = None
written_number Refused item = None

abbrev pub write_place : List Group → ℕ → Option ℕ
write_place groups number = option_and_then (λ (g : Group). option_map (λ (m : Placed). m.place) g.write)
    (slice_get groups number)

abbrev pub write_fault : List Group → ℕ → ℕ → Option SearchError
write_fault groups number place =
    if nat_eq number 0 then Some (WritesOpening place)
    else option_map (λ first. WritesTwice first place) (write_place groups number)

-- why an operation at this place isn't entered, if so
abbrev pub entry_fault : List Group → Op ℕ → ℕ → Option SearchError
entry_fault groups o place =
    if is_backwards o.starts o.ends then Some (Backwards place)
    else option_and_then (λ number. write_fault groups number place) (written_number o.kind o.item)

abbrev pub counted_number : Op ℕ → Option ℕ
counted_number o = if counts o then o.item else None

-- the same from the rows
abbrev pub row_write_place : List ℕ → List Roles → ℕ → Option ℕ
row_write_place places roles number =
    option_and_then (λ (own : Roles). slice_get places own.write) (slice_get roles number)

abbrev pub row_write_fault : List ℕ → List Roles → ℕ → ℕ → Option SearchError
row_write_fault places roles number place =
    if nat_eq number 0 then Some (WritesOpening place)
    else option_map (λ first. WritesTwice first place) (row_write_place places roles number)

abbrev pub row_fault : List ℕ → List Roles → Op ℕ → ℕ → Option SearchError
row_fault places roles o place =
    if is_backwards o.starts o.ends then Some (Backwards place)
    else option_and_then (λ number. row_write_fault places roles number place) (written_number o.kind o.item)

-- some empty elements more
pub record Grows {X : Type 0} (empty : X) (old new : List X) : Type 0 where
  pub stays : (number : ℕ) (x : X) → slice_get old number ≡ Some x → slice_get new number ≡ Some x
  pub from : (number : ℕ) (x : X) → slice_get new number ≡ Some x → (slice_get old number ≡ Some x) ⊎ (x ≡ empty)

abbrev pub empty_roles : Roles
empty_roles = record { write = nowhere; first = nowhere; last = nowhere; refused = nowhere }

abbrev pub is_refused : Kind → Bool
is_refused Refused = true
is_refused Write = false
is_refused Read = false

-- whether what has this end ends before what is kept, which ends then
abbrev pub ends_first : Option ℕ → Option ℕ → Bool
ends_first None kept = false
ends_first (Some end) None = true
ends_first (Some end) (Some least) = nat_lt end least

-- whether what begins then begins behind what is kept
abbrev pub begins_last : ℕ → Option ℕ → Bool
begins_last starts None = true
begins_last starts (Some latest) = nat_lt latest starts

abbrev pub end_at : List (Op ℕ) → ℕ → Option ℕ
end_at ops index = option_and_then (λ (o : Op ℕ). o.ends) (slice_get ops index)

abbrev pub start_at : List (Op ℕ) → ℕ → Option ℕ
start_at ops index = option_map (λ (o : Op ℕ). o.starts) (slice_get ops index)

-- the roles with one more operation, which is to have this index
abbrev pub joined_roles : List (Op ℕ) → Roles → Op ℕ → ℕ → Roles
joined_roles ops roles o next = record {
  write = if is_write o.kind then next else roles.write;
  first = if ends_first o.ends (end_at ops roles.first) then next else roles.first;
  last = if begins_last o.starts (start_at ops roles.last) then next else roles.last;
  refused = if is_refused o.kind then next else roles.refused;
}
