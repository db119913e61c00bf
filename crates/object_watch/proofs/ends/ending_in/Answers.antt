-- The first of them that has one.
use Rattle.std.proofs.Common.{◌≡◌, ℕ, ◌<◌, ◌≤◌, List, length, slice_get, Option, None, Some, refl, sym, ◌∙◌, ap, arith, subst, inl, inr}
use Rattle.std.proofs.lemmas.Bool.{cases_lt}
use Rattle.std.proofs.lemmas.Option.{same_Some, slice_get_read, slice_get_within}
use Rattle.object_core.specs.declared.operation.Operation.{Operation}
use Rattle.object_watch.specs.declared.remainder.Remainder.{Remainder}
use Rattle.object_watch.specs.inner.Levels.{IsEnding, IsEndingAt}
use Rattle.object_watch.proofs.ends.ending_in.Goals as goal

pub returns-in-Some : goal.returns-in-Some
returns-in-Some g c = (
  (c.loop-one.one-index, c.one-item.result, here, (c.in-Some.place, there.1 ∙ ap Some same)),
  ap (λ (z : Operation g.row.W.Denot). z.ends) (sym same) ∙ there.2,
)
  where
    here : slice_get c.args.held.now c.loop-one.one-index ≡ Some c.one-item.result
    here = slice_get_read c.args.held.now (length c.args.held.now) c.loop-one.one-index c.one-item.result refl c.loop-one-test.true
        c.one-item.is

    P : List (Operation g.row.W.Denot) → Type 0
    P z = IsEndingAt z c.args.at c.in-Some.place

    there : IsEndingAt c.one-item.result.rest.items c.args.at c.in-Some.place
    there = subst P c.as_slice.ensures.value c.in-Some.ensures

    L : List (Operation g.row.W.Denot) → Type 0
    L z = c.in-Some.place < length z

    G : List (Operation g.row.W.Denot) → Type 0
    G z = slice_get z c.in-Some.place ≡ Some c.index-as_slice-place.result

    read : slice_get c.one-item.result.rest.items c.in-Some.place ≡ Some c.index-as_slice-place.result
    read = subst G c.as_slice-in-Some.ensures.value (slice_get_read c.as_slice-in-Some.result.now (length c.as_slice-in-Some.result.now)
        c.in-Some.place c.index-as_slice-place.result refl
        (subst L (sym c.as_slice-in-Some.ensures.value) (slice_get_within c.one-item.result.rest.items c.in-Some.place there.0 there.1))
        c.index-as_slice-place.is)

    same : there.0 ≡ c.index-as_slice-place.result
    same = same_Some there.0 c.index-as_slice-place.result (sym there.1 ∙ read)

pub loop-one-preserved : goal.loop-one-preserved
loop-one-preserved g c i p one l e h = elim (cases_lt i c.loop-one.one-index) [
  | inl less ↦ c.loop-one.invariant i p one less e h
  | inr le ↦
      let here : slice_get c.args.held.now c.loop-one.one-index ≡ Some c.one-item.result =
      slice_get_read c.args.held.now (length c.args.held.now) c.loop-one.one-index c.one-item.result refl c.loop-one-test.true
      c.one-item.is in
      let at : i ≡ c.loop-one.one-index = omega (arith, l, le) in
      let same : one ≡ c.one-item.result = same_Some one c.one-item.result (sym e ∙ (ap (slice_get c.args.held.now) at ∙ here)) in
      let P : List (Operation g.row.W.Denot) → Type 0 = λ z. IsEnding z c.args.at None in
      let Q : Option ℕ → Type 0 = λ z. IsEnding c.as_slice.result.now c.args.at z in
      let R : Remainder g.row.O.Denot g.row.W.Denot → Type 0 = λ z. IsEndingAt z.rest.items c.args.at p in
      subst P c.as_slice.ensures.value (subst Q c.in_default.is c.ending_at.ensures) p (subst R same h)
]

pub returns : goal.returns
returns g c (i, one, p, e, h) =
    let l = slice_get_within c.args.held.now i one e in
    let done : length c.args.held.now ≤ c.loop-one.one-index = c.loop-one-test.false in
    c.loop-one.invariant i p one (omega (arith, l, done)) e h
