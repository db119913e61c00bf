-- However the answer was found, it is right.
use Rattle.std.proofs.Common.{rules, ℕ, List, slice_get, sym, ap, subst, ◌∙◌}
use Rattle.std.specs.Prelude.{IsTrue}
use Rattle.history_core.specs.declared.history.Op.{Op}
use Rattle.history_core.specs.Searches.{AreForwards, IsFault}
use Rattle.history_search.proofs.Assembled.{answered, group_fault, groups_within, if_none}
use Rattle.history_search.proofs.Known.{searched}
use Rattle.history_search.proofs.find.find_order.Goals as goal

pub search_groups-requires-clause-within : goal.search_groups-requires-clause-within
search_groups-requires-clause-within g c = λ p h e.
    groups_within (λ x y. IsTrue (g.R.PartialEq.eq x y)) c.args.h.now.opening c.as_slice-ops.result.now c.in-Ok.groups.items
    c.in-Ok.ensures.groups p h (ap (λ z. slice_get z p) (sym c.as_slice-2.ensures.value) ∙ e)

pub returns-in-Err : goal.returns-in-Err
returns-in-Err g c =
    let P : List (Op g.row.R.Denot) → Type 0 = λ z.
    IsFault (λ x y. IsTrue (g.R.PartialEq.eq x y)) c.args.h.now.opening c.args.h.now.terms z c.in-Err.error in
    subst P c.as_slice-ops.ensures (group_fault (λ x y. IsTrue (g.R.PartialEq.eq x y)) c.args.h.now.opening c.args.h.now.terms
    c.as_slice-ops.result.now c.in-Err.error (if_none c.first_backwards.result ((n : ℕ) → AreForwards c.as_slice-ops.result.now n)
    c.first_backwards.ensures.none c.in_default-first_backwards.not-Some) c.in-Err.ensures.fault)

pub returns-in-Ok-search_groups : goal.returns-in-Ok-search_groups
returns-in-Ok-search_groups g c =
    let forwards : (n : ℕ) → AreForwards c.as_slice-ops.result.now n =
    if_none c.first_backwards.result ((n : ℕ) → AreForwards c.as_slice-ops.result.now n) c.first_backwards.ensures.none
    c.in_default-first_backwards.not-Some in
    answered (λ x y. IsTrue (g.R.PartialEq.eq x y)) c.args.h.now.opening c.in-Some.limit c.args.h.now.terms c.as_slice.result.now
    c.args.h.now.ops c.as_slice-ops.result.now c.in-Ok.groups.items c.as_slice-2.result.now c.in-Ok-search_groups.search c.as_slice.ensures
    c.as_slice-ops.ensures c.as_slice-2.ensures.value (searched g.R.PartialEq.eq g.R.Ord.cmp g.met.R.Eq.laws g.met.R.Ord.total
    g.met.R.Ord.matches_eq c.args.h.now.opening c.as_slice-ops.result.now forwards c.in-Ok.ensures.once) c.in-Some.ensures.some forwards
    c.in-Ok.ensures.once c.in-Ok.ensures.groups c.in-Ok-search_groups.ensures

pub returns-in-Some-first_backwards : goal.returns-in-Some-first_backwards
returns-in-Some-first_backwards g c = search rules
