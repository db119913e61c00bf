-- The one at hand.
use Rattle.std.proofs.Common.{◌≡◌, ℕ, true, List, get_or, Option, None, Some, is_some, refl, sym, ◌∙◌, subst}
use Rattle.std.proofs.lemmas.Option.{slice_get-get_or}
use Rattle.object_sweep.specs.inner.Steps.{step_from}
use Rattle.object_sweep.proofs.ending.pure_next.Goals as goal

there_is : {S : Type 0} (m : Option S) → is_some m ≡ true → (s : S) × (m ≡ Some s)
there_is None e = cc
there_is (Some s) e = (s, refl)

pub returns-then-is_some : goal.returns-then-is_some
returns-then-is_some g c =
    let step = there_is c.step_from.result (sym c.is_some.ensures ∙ c.if-is_some.true) in
    let q : ℕ = get_or c.args.under_way.now c.loop-place.place-index 0 in
    let P : List ℕ → Type 0 = λ z. c.step_from.result ≡ step_from g.O.Object.after c.args.log.now c.args.from.now.state z q in (
      c.loop-place.place-index,
      step.0,
      slice_get-get_or c.args.under_way.now c.loop-place.place-index _ c.loop-place-test.true,
      c.is_sure_and_pure.ensures c.if-is_sure_and_pure.true,
      sym (subst P c.as_slice.ensures.value c.step_from.ensures) ∙ step.1,
    )
