-- One more.
use Rattle.std.proofs.Common.{◌≡◌, ℕ, ◌+◌, ◌≤◌, length, refl, sym, ◌∙◌, arith, ap, subst, slice_get, Some}
use Rattle.std.proofs.lemmas.Option.{slice_get_read}
use Rattle.object_core.specs.declared.operation.Operation.{Operation}
use Rattle.object_watch.specs.inner.Levels.{IsLatestOf, later_end}
use Rattle.object_watch.proofs.Latest.{latest_of_more, latest_of_none}
use Rattle.object_watch.proofs.ends.latest_of.Goals as goal

pub loop-place-init : goal.loop-place-init
loop-place-init g c = latest_of_none c.args.rest.now c.args.most

pub loop-place-preserved : goal.loop-place-preserved
loop-place-preserved g c =
    let here : slice_get c.args.rest.now c.loop-place.place ≡ Some c.index-rest-place.result =
    slice_get_read c.args.rest.now (length c.args.rest.now) c.loop-place.place c.index-rest-place.result refl c.loop-place-test.true
    c.index-rest-place.is in
    let P : ℕ → Type 0 = λ z. IsLatestOf (c.loop-place.place + 1) c.args.rest.now c.args.most z in
    let same : later_end c.loop-place.latest c.index-rest-place.result.ends ≡ c.later_end-latest.result =
    ap (λ (z : Operation g.row.W.Denot). later_end c.loop-place.latest z.ends) c.index-rest-place.is
    ∙ sym c.later_end-latest.ensures in
    subst P same (latest_of_more c.args.rest.now c.args.most c.loop-place.place c.index-rest-place.result here
    c.loop-place.latest c.loop-place.invariant)

pub returns : goal.returns
returns g c =
    let done : length c.args.rest.now ≤ c.loop-place.place = c.loop-place-test.false in
    let same : c.loop-place.place ≡ length c.args.rest.now = let l = c.loop-place.auto.place-end in omega (arith, done, l) in
    let P : ℕ → Type 0 = λ z. IsLatestOf z c.args.rest.now c.args.most c.loop-place.latest in
    subst P same c.loop-place.invariant
