-- One more that can't.
use Rattle.std.proofs.Common.{◌≡◌, ◌<◌, ◌≤◌, length, slice_get, Some, refl, sym, ◌∙◌, ap, subst, arith, inl, inr}
use Rattle.std.proofs.lemmas.Bool.{cases_lt, iff_false}
use Rattle.std.proofs.lemmas.Option.{same_Some, slice_get_read, slice_get_within}
use Rattle.object_sweep.specs.declared.configuration.Configuration.{Configuration}
use Rattle.object_sweep.specs.inner.Steps.{Covers, sure_at}
use Rattle.object_sweep.proofs.held.is_covered.Goals as goal

pub returns-then-covers : goal.returns-then-covers
returns-then-covers g c = (
  λ t. (
    c.loop-one.one-index,
    c.one-item.result,
    slice_get_read c.args.held.now (length c.args.held.now) c.loop-one.one-index
        c.one-item.result refl c.loop-one-test.true c.one-item.is,
    c.covers.ensures.0 c.if-covers.true,
  ),
  λ h. refl,
)

pub loop-one-preserved : goal.loop-one-preserved
loop-one-preserved g c j one l at same = elim (cases_lt j c.loop-one.one-index) [
  | inl less ↦ c.loop-one.invariant j one less at same
  | inr le ↦
      let e : j ≡ c.loop-one.one-index = omega arith in
      let here : slice_get c.args.held.now c.loop-one.one-index ≡ Some c.one-item.result =
      slice_get_read c.args.held.now (length c.args.held.now) c.loop-one.one-index c.one-item.result refl c.loop-one-test.true
      c.one-item.is in
      let it : one ≡ c.one-item.result =
      same_Some one c.one-item.result (sym at ∙ (ap (slice_get c.args.held.now) e ∙ here)) in
      let P : Configuration g.row.O.Denot → Type 0 = λ z. Covers (sure_at c.args.log.now) z c.args.sought.now.state
      c.args.sought.now.placed.items in
      iff_false c.covers.ensures c.if-covers.false (subst P it same)
]

pub returns : goal.returns
returns g c = (
  λ t. cc,
  λ h.
      let l : h.0 < length c.args.held.now = slice_get_within c.args.held.now h.0 h.1 h.2 in
      let done : length c.args.held.now ≤ c.loop-one.one-index = c.loop-one-test.false in
      absurd (c.loop-one.invariant h.0 h.1 (omega arith) h.2 h.3),
)
