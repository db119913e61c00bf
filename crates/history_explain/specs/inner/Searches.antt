-- What the searches for a break keep as they go. Only private functions cite this, which is this project's own; what
-- a break is stands in Breaks.
use Rattle.std.specs.Prelude.{◌≡◌, ℕ, ◌+◌, ◌<◌, List, length, slice_get, slice_index, take, true, nat_eq}
use Rattle.std.specs.Prelude.{nat_lt, if◌then◌else◌, Option}
use Rattle.std.specs.Prelude.{None, Some, IsSome}
use Rattle.history_core.specs.declared.history.Kind.{Kind}
use Rattle.history_core.specs.declared.history.Kind.TheVariants.{Write, Read, Refused}
use Rattle.history_explain.specs.declared.breaks.Break.{Break}
use Rattle.history_explain.specs.declared.breaks.Break.TheVariants as break
use Rattle.history_explain.specs.declared.breaks.precedence.Begun.{Begun}
use Rattle.history_explain.specs.declared.breaks.refusal.Early.{Early}
use Rattle.history_core.specs.declared.history.Op.{Op}
use Rattle.history_core.specs.Orders.{ReadsRight, writes_in}
use Rattle.history_check.specs.Ranges.{is_between}

-- the count of this place rises by one, and no other changes; a place of another block changes none
abbrev pub AddsOne : List ℕ → List ℕ → ℕ → ℕ → Type 0
AddsOne old new base place = (k : ℕ) → k < length old →
    slice_index new k ≡ slice_index old k + (if nat_eq place (base + k) then 1 else 0)

-- the last write once this entry, of an operation of this kind, has been met
abbrev pub write_after : Kind → ℕ → Option ℕ → Option ℕ
write_after Write entry write = Some entry
write_after Read entry write = write
write_after Refused entry write = write

-- an operation of this kind and item breaks reading so, where the latest record is that of this write
abbrev pub IsWrongAt : {R : Type 0} → (R → R → Type 0) → R → Option ℕ → ℕ → Kind → Option R → Break → Type 0
IsWrongAt Same latest write entry kind item (break.NoItem e) = (e ≡ entry) × (item ≡ None)
IsWrongAt Same latest write entry kind item (break.Reading e w) =
    (e ≡ entry) × (w ≡ write) × IsSome item × ¬ ReadsRight Same kind item (Some latest)
IsWrongAt Same latest write entry kind item other = ⊥

-- how far the order is still to be searched: up to the entry that was found, or to its end
abbrev pub end_of : Option ℕ → ℕ → ℕ
end_of None long = long
end_of (Some entry) long = entry

-- the one of two entries that began later, or the first where both began at once
abbrev pub later_of : Begun → Begun → Begun
later_of a b = if nat_lt a.starts b.starts then b else a

abbrev pub entry_of : Option Early → Option ℕ
entry_of None = None
entry_of (Some e) = Some e.entry

-- the write of this entry, at a place from `first` up to `next`, was refused with so many writes at such places
-- before it, fewer than the limit
abbrev pub IsEarly : {R : Type 0} → ℕ → ℕ → ℕ → List (Op R) → List ℕ → Early → Type 0
IsEarly {R} first next limit ops order early =
    (p : ℕ) × (o : Op R) × (slice_get order early.entry ≡ Some p) × (slice_get ops p ≡ Some o) × (o.kind ≡ Refused)
    × (is_between first next p ≡ true)
    × (early.writes ≡ writes_in (is_between first next) ops (take early.entry order)) × (early.writes < limit)
