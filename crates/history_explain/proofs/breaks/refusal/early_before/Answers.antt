-- One more entry keeps or breaks the rule by the count before it alone.
use Rattle.std.proofs.Common.{◌≡◌, ◌<◌, ◌≤◌, ℕ, List, Option, None, Some, IfSome, length, arith, refl, sym, ap, ◌∙◌, inl, inr, subst}
use Rattle.std.proofs.Common.{slice_get, get_or, take, true, false, Bool}
use Rattle.std.proofs.lemmas.Bool.{cases_lt}
use Rattle.std.proofs.lemmas.Option.{slice_get-get_or, slice_get_read}
use Rattle.history_core.specs.Orders.{KeepsLimit, ListsPlaces}
use Rattle.history_check.specs.Ranges.{is_between, MayRefuse, writes_after}
use Rattle.history_explain.specs.inner.Searches.{end_of, entry_of}
use Rattle.history_explain.specs.declared.breaks.refusal.Early.{Early}
use Rattle.history_core.specs.declared.history.Kind.{Kind}
use Rattle.history_core.specs.declared.history.Kind.TheVariants.{Write, Read, Refused}
use Rattle.history_core.specs.declared.history.Op.{Op}
use Rattle.history_explain.proofs.Early.{counted_front}
use Rattle.history_check.proofs.Limits.{counts_start, counts_step}
use Rattle.history_explain.proofs.breaks.refusal.early_before.Goals as goal

end_within : (found : Option Early) (n : ℕ) → IfSome found (λ e. e.entry ≤ n) → end_of (entry_of found) n ≤ n
end_within None n h = omega arith
end_within (Some e) n h = h

listed : {R : Type 0} (ops : List (Op R)) (order : List ℕ) (i : ℕ) (o : Op R) → ListsPlaces ops order → i < length order →
    o ≡ get_or ops (get_or order i 0) o → (slice_get order i ≡ Some (get_or order i 0)) × (slice_get ops (get_or order i 0) ≡ Some o)
listed ops order i o places l e =
    let at : slice_get order i ≡ Some (get_or order i 0) = slice_get-get_or order i 0 l in
    (at, slice_get_read ops (length ops) (get_or order i 0) o refl (places i _ at) e)

-- what may not be is refused, within, and with too few writes
not_may : (within : Bool) (kind : Kind) (limit writes : ℕ) → (MayRefuse within kind limit writes → ⊥) →
    (within ≡ true) × (kind ≡ Refused) × (writes < limit)
not_may false kind limit writes h = absurd (h (λ t k. cc))
not_may true Write limit writes h = absurd (h (λ t k. cc))
not_may true Read limit writes h = absurd (h (λ t k. cc))
not_may true Refused limit writes h = elim (cases_lt writes limit) [ inl lt ↦ (refl, refl, lt) | inr le ↦ absurd (h (λ t k. le)) ]

pub loop-entry-init : goal.loop-entry-init
loop-entry-init g c = counts_start _ _ _ _ _

pub loop-entry-preserved : goal.loop-entry-preserved
loop-entry-preserved g c =
    let le = end_within c.args.found (length c.args.order.now) c.requires.within in
    let h = listed c.args.ops.now c.args.order.now c.loop-entry.entry c.index-ops-place.result c.requires.places
    (omega (arith, c.end_of-end.ensures)) c.index-ops-place.is in
    counts_step c.args.first c.args.next c.args.limit _ _ _ _ c.loop-entry.writes _ _ h.0 h.1 c.loop-entry.invariant
    (c.in-Some.ensures.counted ∙ ap (λ b. writes_after b c.index-ops-place.result.kind c.loop-entry.writes) c.is_within.ensures)
    (λ b. c.in-Some.ensures.lawful (c.is_within.ensures ∙ b))

pub returns-in-None-clause-lawful : goal.returns-in-None-clause-lawful
returns-in-None-clause-lawful g c = counted_front c.args.first c.args.next c.args.limit _ _ _ _ c.loop-entry.invariant

pub returns-clause-lawful : goal.returns-clause-lawful
returns-clause-lawful g c =
    let P : ℕ → Type 0 = λ n. KeepsLimit (is_between c.args.first c.args.next) c.args.limit c.args.ops.now (take n c.args.order.now) in
    subst P (omega (arith, c.end_of-end.ensures))
    (counted_front c.args.first c.args.next c.args.limit _ _ c.loop-entry.entry _ c.loop-entry.invariant)

pub returns-in-None-clause-early : goal.returns-in-None-clause-early
returns-in-None-clause-early g c =
    let le = end_within c.args.found (length c.args.order.now) c.requires.within in
    let h = listed c.args.ops.now c.args.order.now c.loop-entry.entry c.index-ops-place.result c.requires.places
    (omega (arith, c.end_of-end.ensures)) c.index-ops-place.is in
    let w = not_may _ _ _ _ c.in-None.ensures.broken in
    inr (omega (arith, c.end_of-end.ensures), (_, _, h.0, h.1, w.1, sym c.is_within.ensures ∙ w.0, c.loop-entry.invariant.counted, w.2))
