-- One more is greater than the one before it.
use Rattle.std.proofs.Common.{◌≡◌, ℕ, ◌+◌, ◌-◌, ◌≤◌, length, subst, arith, inl, inr}
use Rattle.std.proofs.lemmas.Bool.{cases_lt}
use Rattle.std.proofs.lemmas.Option.{slice_get_within}
use Rattle.object_window.specs.inner.Parts.{IsLessAt}
use Rattle.object_window.proofs.Found.{all_rise}
use Rattle.object_window.proofs.window.do_rise.Goals as goal

pub loop-i-preserved : goal.loop-i-preserved
loop-i-preserved c j l = elim (cases_lt (j + 1) c.loop-i.i) [
  | inl less ↦ c.loop-i.invariant j less
  | inr le ↦
      let e : c.loop-i.i ≡ j + 1 = omega (arith, l, le) in
      let f : c.loop-i.i - 1 ≡ j = omega (arith, e) in
      let P : ℕ → Type 0 = λ z. IsLessAt c.args.places.now z c.loop-i.i in
      let Q : ℕ → Type 0 = λ z. IsLessAt c.args.places.now j z in
      subst Q e (subst P f (c.is_less_at.ensures c.if-not-is_less_at.false))
]

pub returns : goal.returns
returns c h = all_rise c.args.places.now (λ j p q jp kq.
    let l = slice_get_within c.args.places.now (j + 1) q kq in
    let done : length c.args.places.now ≤ c.loop-i.i = c.loop-i-test.false in
    c.loop-i.invariant j (omega (arith, l, done)) p q jp kq)
