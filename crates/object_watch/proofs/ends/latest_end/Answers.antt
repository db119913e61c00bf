-- One more.
use Rattle.std.proofs.Common.{◌≡◌, ℕ, ◌≤◌, length, refl, sym, ◌∙◌, ap, arith, subst, List, slice_get, Some}
use Rattle.std.proofs.lemmas.Option.{slice_get_read}
use Rattle.object_core.specs.declared.operation.Operation.{Operation}
use Rattle.object_watch.specs.declared.remainder.Remainder.{Remainder}
use Rattle.object_watch.specs.inner.Levels.{IsLatest, IsLatestOf}
use Rattle.object_watch.proofs.Latest.{latest_more, latest_none}
use Rattle.object_watch.proofs.ends.latest_end.Goals as goal

pub loop-i-init : goal.loop-i-init
loop-i-init g c = latest_none c.args.held.now c.args.moment

pub loop-i-preserved : goal.loop-i-preserved
loop-i-preserved g c =
    let here : slice_get c.args.held.now c.loop-i.i ≡ Some c.index-held-i.result =
    slice_get_read c.args.held.now (length c.args.held.now) c.loop-i.i c.index-held-i.result refl c.loop-i-test.true c.index-held-i.is in
    let is : c.as_slice.result.now ≡ c.index-held-i.result.rest.items =
    c.as_slice.ensures.value ∙ sym (ap (λ (z : Remainder g.row.O.Denot g.row.W.Denot). z.rest.items) c.index-held-i.is) in
    let P : List (Operation g.row.W.Denot) → Type 0 =
    λ z. IsLatestOf (length z) z c.loop-i.latest c.latest_of-latest.result in
    latest_more c.args.held.now c.args.moment c.loop-i.i c.index-held-i.result here c.loop-i.latest c.latest_of-latest.result
    c.loop-i.invariant (subst P is c.latest_of-latest.ensures)

pub returns : goal.returns
returns g c =
    let done : length c.args.held.now ≤ c.loop-i.i = c.loop-i-test.false in
    let same : c.loop-i.i ≡ length c.args.held.now = let l = c.loop-i.auto.i-end in omega (arith, done, l) in
    let P : ℕ → Type 0 = λ z. IsLatest z c.args.held.now c.args.moment c.loop-i.latest in
    subst P same c.loop-i.invariant
