-- One more number is among them; but there aren't so many.
use Rattle.std.proofs.Common.{◌≡◌, ℕ, ◌+◌, ◌<◌, ◌≤◌, true, length, sym, ◌∙◌, subst, arith, inl, inr}
use Rattle.std.proofs.lemmas.Bool.{cases_Bool, cases_lt}
use Rattle.object_sweep.specs.Reached.{is_in}
use Rattle.object_window.proofs.Openings.{few_among}
use Rattle.object_window.proofs.loss.other_than.Goals as goal

pub loop-n-preserved : goal.loop-n-preserved
loop-n-preserved c m l = elim (cases_lt m c.loop-n.n) [
  | inl less ↦ c.loop-n.invariant m less
  | inr le ↦
      let e : c.loop-n.n ≡ m = omega (arith, l, le) in
      let P : ℕ → Type 0 = λ z. is_in z c.args.records.now ≡ true in
      subst P e (sym c.is_in.ensures ∙ c.if-not-is_in.false)
]

pub returns : goal.returns
returns c = elim (cases_Bool (is_in (length c.args.records.now) c.args.records.now)) [
  | inl there ↦
      let done : length c.args.records.now ≤ c.loop-n.n = c.loop-n-test.false in
      let all : (m : ℕ) → m < length c.args.records.now + 1 → is_in m c.args.records.now ≡ true = λ m l.
      (elim (cases_lt m (length c.args.records.now)) [
        | inl less ↦ c.loop-n.invariant m (omega (arith, less, done))
        | inr le ↦
            let e : length c.args.records.now ≡ m = omega (arith, l, le) in
            let P : ℕ → Type 0 = λ z. is_in z c.args.records.now ≡ true in
            subst P e there
      ]) in
      let few = few_among (length c.args.records.now + 1) c.args.records.now all in absurd (omega (arith, few))
  | inr none ↦ none
]
