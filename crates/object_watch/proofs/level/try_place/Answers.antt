-- One more is placed, or it can't be.
use Rattle.std.proofs.Common.{◌≡◌, ◌<◌, ◌≤◌, List, length, refl, sym, ◌∙◌, subst, slice_get, Some, arith}
use Rattle.std.proofs.lemmas.Option.{slice_get_read}
use Rattle.std.proofs.lemmas.Result.{on_ok_weaker}
use Rattle.object_core.specs.declared.operation.Operation.{Operation}
use Rattle.object_watch.proofs.Growing.{grown_not, grown_placed, is_placed, not_placed}
use Rattle.object_watch.proofs.level.try_place.Goals as goal

pub returns-in-Some-clause-grown : goal.returns-in-Some-clause-grown
returns-in-Some-clause-grown g c = on_ok_weaker c.add_without.result (λ put.
    grown_placed g.O.Object.after c.args.end c.args.from.now.state c.args.from.now.rest.items c.args.seen.now.items
    c.add_without.new.seen.items c.args.place c.index-as_slice-place.result at c.in-Some.state (omega (arith, late))
    (sym c.step.ensures ∙ c.in-Some.is) put) c.add_without.ensures
  where
    P : List (Operation g.row.O-What.Denot) → Type 0
    P z = slice_get z c.args.place ≡ Some c.index-as_slice-place.result

    L : List (Operation g.row.O-What.Denot) → Type 0
    L z = c.args.place < length z

    at : slice_get c.args.from.now.rest.items c.args.place ≡ Some c.index-as_slice-place.result
    at = subst P c.as_slice.ensures.value (slice_get_read c.as_slice.result.now (length c.as_slice.result.now) c.args.place
        c.index-as_slice-place.result refl (subst L (sym c.as_slice.ensures.value) c.requires) c.index-as_slice-place.is)

    late : c.index-as_slice-place.result.starts ≤ c.args.end
    late = c.if-end-op.false

pub returns-in-Some-clause-placed : goal.returns-in-Some-clause-placed
returns-in-Some-clause-placed g c = on_ok_weaker c.add_without.result (λ put.
    is_placed g.O.Object.after c.args.end c.args.from.now.state c.args.from.now.rest.items c.args.seen.now.items
    c.add_without.new.seen.items c.args.place c.index-as_slice-place.result at c.in-Some.state
    (sym c.step.ensures ∙ c.in-Some.is) put) c.add_without.ensures
  where
    P : List (Operation g.row.O-What.Denot) → Type 0
    P z = slice_get z c.args.place ≡ Some c.index-as_slice-place.result

    L : List (Operation g.row.O-What.Denot) → Type 0
    L z = c.args.place < length z

    at : slice_get c.args.from.now.rest.items c.args.place ≡ Some c.index-as_slice-place.result
    at = subst P c.as_slice.ensures.value (slice_get_read c.as_slice.result.now (length c.as_slice.result.now) c.args.place
        c.index-as_slice-place.result refl (subst L (sym c.as_slice.ensures.value) c.requires) c.index-as_slice-place.is)

pub returns-in-None-clause-grown : goal.returns-in-None-clause-grown
returns-in-None-clause-grown g c = grown_not g.O.Object.after c.args.end c.args.from.now.state c.args.from.now.rest.items
    c.args.seen.now.items

pub returns-in-None-clause-placed : goal.returns-in-None-clause-placed
returns-in-None-clause-placed g c =
    not_placed g.O.Object.after c.args.end c.args.from.now.state c.args.from.now.rest.items
    c.args.seen.now.items c.args.seen.now.items c.args.place
    c.index-as_slice-place.result at (λ t began step. (let e = sym (sym c.step.ensures ∙ c.in-None.is) ∙ step in cc))
  where
    P : List (Operation g.row.O-What.Denot) → Type 0
    P z = slice_get z c.args.place ≡ Some c.index-as_slice-place.result

    L : List (Operation g.row.O-What.Denot) → Type 0
    L z = c.args.place < length z

    at : slice_get c.args.from.now.rest.items c.args.place ≡ Some c.index-as_slice-place.result
    at = subst P c.as_slice.ensures.value (slice_get_read c.as_slice.result.now (length c.as_slice.result.now) c.args.place
        c.index-as_slice-place.result refl (subst L (sym c.as_slice.ensures.value) c.requires) c.index-as_slice-place.is)

pub returns-then-end-op-clause-grown : goal.returns-then-end-op-clause-grown
returns-then-end-op-clause-grown g c = grown_not g.O.Object.after c.args.end c.args.from.now.state c.args.from.now.rest.items
    c.args.seen.now.items

pub returns-then-end-op-clause-placed : goal.returns-then-end-op-clause-placed
returns-then-end-op-clause-placed g c =
    not_placed g.O.Object.after c.args.end c.args.from.now.state c.args.from.now.rest.items
    c.args.seen.now.items c.args.seen.now.items c.args.place
    c.index-as_slice-place.result at (λ t began step. (let l = c.if-end-op.true in omega (arith, began, l)))
  where
    P : List (Operation g.row.O-What.Denot) → Type 0
    P z = slice_get z c.args.place ≡ Some c.index-as_slice-place.result

    L : List (Operation g.row.O-What.Denot) → Type 0
    L z = c.args.place < length z

    at : slice_get c.args.from.now.rest.items c.args.place ≡ Some c.index-as_slice-place.result
    at = subst P c.as_slice.ensures.value (slice_get_read c.as_slice.result.now (length c.as_slice.result.now) c.args.place
        c.index-as_slice-place.result refl (subst L (sym c.as_slice.ensures.value) c.requires) c.index-as_slice-place.is)
