-- One more.
use Rattle.std.proofs.Common.{◌≡◌, ℕ, ◌+◌, ◌≤◌, length, refl, sym, ◌∙◌, arith, ap, subst, Option, slice_get, Some}
use Rattle.std.proofs.lemmas.Option.{slice_get_read}
use Rattle.object_core.specs.declared.operation.Operation.{Operation}
use Rattle.object_watch.specs.inner.Levels.{IsSoonerOf, sooner_end}
use Rattle.object_watch.proofs.Soonest.{sooner_more, sooner_none}
use Rattle.object_watch.proofs.ends.sooner_of.Goals as goal

pub loop-place-init : goal.loop-place-init
loop-place-init g c = sooner_none c.args.last c.args.rest.now c.args.least c.requires

pub loop-place-preserved : goal.loop-place-preserved
loop-place-preserved g c =
    let here : slice_get c.args.rest.now c.loop-place.place ≡ Some c.index-rest-place.result =
    slice_get_read c.args.rest.now (length c.args.rest.now) c.loop-place.place c.index-rest-place.result refl c.loop-place-test.true
    c.index-rest-place.is in
    let P : Option ℕ → Type 0 = λ z. IsSoonerOf c.args.last (c.loop-place.place + 1) c.args.rest.now c.args.least z in
    let same : sooner_end c.args.last c.loop-place.sooner c.index-rest-place.result.ends ≡ c.sooner_end-sooner.result =
    ap (λ (z : Operation g.row.W.Denot). sooner_end c.args.last c.loop-place.sooner z.ends) c.index-rest-place.is
    ∙ sym c.sooner_end-sooner.ensures in
    subst P same (sooner_more c.args.last c.args.rest.now c.args.least c.requires c.loop-place.place c.index-rest-place.result here
    c.loop-place.sooner c.loop-place.invariant)

pub returns : goal.returns
returns g c =
    let done : length c.args.rest.now ≤ c.loop-place.place = c.loop-place-test.false in
    let same : c.loop-place.place ≡ length c.args.rest.now = let l = c.loop-place.auto.place-end in omega (arith, done, l) in
    let P : ℕ → Type 0 = λ z. IsSoonerOf c.args.last z c.args.rest.now c.args.least c.loop-place.sooner in
    subst P same c.loop-place.invariant
