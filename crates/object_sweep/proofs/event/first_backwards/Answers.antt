-- One more that runs forwards.
use Rattle.std.proofs.Common.{◌≡◌, ◌<◌, ◌≤◌, ℕ, length, slice_get, Option, Some, refl, sym, ◌∙◌, ap, arith, subst, inl, inr}
use Rattle.std.specs.Prelude.{IsSomeAnd}
use Rattle.std.proofs.lemmas.Bool.{cases_lt, iff_false}
use Rattle.std.proofs.lemmas.Option.{same_Some, slice_get_read, slice_get_within}
use Rattle.object_core.specs.declared.operation.Operation.{Operation}
use Rattle.object_sweep.proofs.event.first_backwards.Goals as goal

pub returns-then-is_backwards-clause-some : goal.returns-then-is_backwards-clause-some
returns-then-is_backwards-clause-some g c =
    let P : Option (Operation g.row.W.Denot) → Type 0 = λ z. IsSomeAnd z (λ o. IsSomeAnd o.ends (λ end. end < o.starts)) in
    let at : slice_get c.args.log.now c.loop-place.place ≡ Some c.index-log-place.result =
    slice_get_read c.args.log.now (length c.args.log.now) c.loop-place.place c.index-log-place.result refl c.loop-place-test.true
    c.index-log-place.is in
    subst P (sym at) (c.is_backwards.ensures.0 c.if-is_backwards.true)

pub loop-place-preserved : goal.loop-place-preserved
loop-place-preserved g c p end o l at ends = elim (cases_lt p c.loop-place.place) [
  | inl less ↦ c.loop-place.invariant p end o less at ends
  | inr le ↦
      let e : p ≡ c.loop-place.place = omega arith in
      let here : slice_get c.args.log.now c.loop-place.place ≡ Some c.index-log-place.result =
      slice_get_read c.args.log.now (length c.args.log.now) c.loop-place.place c.index-log-place.result refl c.loop-place-test.true
      c.index-log-place.is in
      let it : o ≡ c.index-log-place.result = same_Some o c.index-log-place.result (sym at ∙ (ap (slice_get c.args.log.now) e ∙ here)) in
      elim (cases_lt end o.starts) [
        | inr forwards ↦ forwards
        | inl back ↦
            let P : Operation g.row.W.Denot → Type 0 = λ z. IsSomeAnd z.ends (λ moment. moment < z.starts) in
            let Q : Option ℕ → Type 0 = λ z. IsSomeAnd z (λ moment. moment < o.starts) in
            absurd (iff_false c.is_backwards.ensures c.if-is_backwards.false (subst P it (subst Q (sym ends) back)))
      ]
]

pub returns-clause-none : goal.returns-clause-none
returns-clause-none g c p end o at ends =
    let l : p < length c.args.log.now = slice_get_within c.args.log.now p o at in
    let done : length c.args.log.now ≤ c.loop-place.place = c.loop-place-test.false in
    c.loop-place.invariant p end o (omega arith) at ends
