-- One more that doesn't end then.
use Rattle.std.proofs.Common.{◌≡◌, ◌<◌, ◌≤◌, length, slice_get, Some, refl, sym, ◌∙◌, ap, arith, subst, inl, inr}
use Rattle.std.proofs.lemmas.Bool.{cases_lt, iff_false}
use Rattle.std.proofs.lemmas.Option.{same_Some, slice_get_read, slice_get_within}
use Rattle.object_core.specs.declared.operation.Operation.{Operation}
use Rattle.object_watch.proofs.level.ending_at.Goals as goal

pub returns-then-ends_at : goal.returns-then-ends_at
returns-then-ends_at g c = (
  c.index-rest-place.result,
  slice_get_read c.args.rest.now (length c.args.rest.now) c.loop-place.place c.index-rest-place.result refl c.loop-place-test.true
      c.index-rest-place.is,
  c.ends_at.ensures.0 c.if-ends_at.true,
)

pub loop-place-preserved : goal.loop-place-preserved
loop-place-preserved g c p l h = elim (cases_lt p c.loop-place.place) [
  | inl less ↦ c.loop-place.invariant p less h
  | inr le ↦
      let e : p ≡ c.loop-place.place = omega arith in
      let here : slice_get c.args.rest.now c.loop-place.place ≡ Some c.index-rest-place.result =
      slice_get_read c.args.rest.now (length c.args.rest.now) c.loop-place.place c.index-rest-place.result refl c.loop-place-test.true
      c.index-rest-place.is in
      let it : h.0 ≡ c.index-rest-place.result =
      same_Some h.0 c.index-rest-place.result (sym h.1 ∙ (ap (slice_get c.args.rest.now) e ∙ here)) in
      let P : Operation g.row.W.Denot → Type 0 = λ z. z.ends ≡ Some c.args.end in
      iff_false c.ends_at.ensures c.if-ends_at.false (subst P it h.2)
]

pub returns : goal.returns
returns g c p h =
    let l : p < length c.args.rest.now = slice_get_within c.args.rest.now p h.0 h.1 in
    let done : length c.args.rest.now ≤ c.loop-place.place = c.loop-place-test.false in
    c.loop-place.invariant p (omega arith) h
