-- It is left out, or can't be.
use Rattle.std.proofs.Common.{◌≡◌, ◌<◌, List, length, refl, sym, ◌∙◌, ap, subst, slice_get, Some}
use Rattle.std.proofs.lemmas.Option.{same_Some, slice_get_read, slice_get_within}
use Rattle.std.proofs.lemmas.Result.{on_ok_weaker}
use Rattle.object_core.specs.declared.operation.Operation.{Operation}
use Rattle.object_watch.proofs.Growing.{grown_left_out, grown_not, not_left_out}
use Rattle.object_watch.proofs.level.leave_out.Goals as goal

pub returns-then-as_slice-place-clause-grown : goal.returns-then-as_slice-place-clause-grown
returns-then-as_slice-place-clause-grown g c = on_ok_weaker c.add_without.result (λ put.
    grown_left_out g.O.Object.after c.args.end c.args.from.now.state c.args.from.now.rest.items c.args.seen.now.items
    c.add_without.new.seen.items c.args.place c.index-as_slice-place.result at ends
    (ap (λ (z : Operation g.row.O-What.Denot). z.maybe) c.index-as_slice-place.is ∙ c.if-as_slice-place.true) put) c.add_without.ensures
  where
    P : List (Operation g.row.O-What.Denot) → Type 0
    P z = slice_get z c.args.place ≡ Some c.index-as_slice-place.result

    L : List (Operation g.row.O-What.Denot) → Type 0
    L z = c.args.place < length z

    at : slice_get c.args.from.now.rest.items c.args.place ≡ Some c.index-as_slice-place.result
    at = subst P c.as_slice.ensures.value (slice_get_read c.as_slice.result.now (length c.as_slice.result.now) c.args.place
        c.index-as_slice-place.result refl (subst L (sym c.as_slice.ensures.value)
        (slice_get_within c.args.from.now.rest.items c.args.place c.requires.0 c.requires.1)) c.index-as_slice-place.is)

    ends : c.index-as_slice-place.result.ends ≡ Some c.args.end
    ends =
        let same : c.requires.0 ≡ c.index-as_slice-place.result =
        same_Some c.requires.0 c.index-as_slice-place.result (sym c.requires.1 ∙ at) in
        ap (λ (z : Operation g.row.O-What.Denot). z.ends) (sym same) ∙ c.requires.2

pub returns-then-as_slice-place-clause-left : goal.returns-then-as_slice-place-clause-left
returns-then-as_slice-place-clause-left g c = on_ok_weaker c.add_without.result (λ put o ot may. put.covered) c.add_without.ensures

pub returns-else-as_slice-place-clause-grown : goal.returns-else-as_slice-place-clause-grown
returns-else-as_slice-place-clause-grown g c = grown_not g.O.Object.after c.args.end c.args.from.now.state c.args.from.now.rest.items
    c.args.seen.now.items

pub returns-else-as_slice-place-clause-left : goal.returns-else-as_slice-place-clause-left
returns-else-as_slice-place-clause-left g c =
    not_left_out g.O.Object.after c.args.end c.args.from.now.state c.args.from.now.rest.items
    c.args.seen.now.items c.args.seen.now.items c.args.place
    c.index-as_slice-place.result at
    (λ e. (let f = ap (λ (z : Operation g.row.O-What.Denot). z.maybe) c.index-as_slice-place.is ∙ c.if-as_slice-place.false in cc))
  where
    P : List (Operation g.row.O-What.Denot) → Type 0
    P z = slice_get z c.args.place ≡ Some c.index-as_slice-place.result

    L : List (Operation g.row.O-What.Denot) → Type 0
    L z = c.args.place < length z

    at : slice_get c.args.from.now.rest.items c.args.place ≡ Some c.index-as_slice-place.result
    at = subst P c.as_slice.ensures.value (slice_get_read c.as_slice.result.now (length c.as_slice.result.now) c.args.place
        c.index-as_slice-place.result refl (subst L (sym c.as_slice.ensures.value)
        (slice_get_within c.args.from.now.rest.items c.args.place c.requires.0 c.requires.1)) c.index-as_slice-place.is)

pub add_without-requires : goal.add_without-requires
add_without-requires g c = slice_get_within c.args.from.now.rest.items c.args.place c.requires.0 c.requires.1
