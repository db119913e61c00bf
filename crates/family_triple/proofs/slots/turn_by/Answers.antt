-- Each turn puts one more behind.
use Rattle.std.proofs.Common.{◌≡◌, length, refl, ap, ◌∙◌, arith}
use Rattle.family_triple.proofs.Turns.{none_turned, one_turn_more}
use Rattle.family_triple.proofs.slots.turn_by.Goals as goal

pub loop-init : goal.loop-init
loop-init g c = (refl, refl, λ front back e long. none_turned c.args.seat.now.inner.me.1 front back e long)

pub loop-preserved : goal.loop-preserved
loop-preserved g c =
    let h = c.loop.invariant in (
      c.turn.ensures.own ∙ h.0,
      ap (λ z. z.0) c.turn.ensures.turned ∙ h.1,
      λ front back e long. ap (λ z. z.1) c.turn.ensures.turned
          ∙ one_turn_more c.args.seat.now.inner.me.1 c.loop.seat.inner.me.1 c.loop.counter h.2 front back e long,
    )

pub returns-clause-turned : goal.returns-clause-turned
returns-clause-turned g c front back e long =
    let h = c.loop.invariant in
    let done : length front ≡ c.loop.counter = omega (arith, long, c.loop-test.false, c.loop.auto.counter-end) in
    (λ i. (h.1 i, h.2 front back e done i))

pub returns-clause-view : goal.returns-clause-view
returns-clause-view g c = c.loop.invariant.1
