-- One more has it, and at last each.
use Rattle.std.proofs.Common.{◌≡◌, ℕ, ◌<◌, length, refl, arith, subst, slice_get, Some}
use Rattle.std.proofs.lemmas.Option.{slice_get_read}
use Rattle.object_watch.specs.inner.Levels.{AreTaken}
use Rattle.object_watch.proofs.Watching.{taken_more}
use Rattle.object_watch.proofs.watch.push_all.Goals as goal

pub loop-i-preserved : goal.loop-i-preserved
loop-i-preserved g c =
    taken_more c.loop-i.i c.args.op c.args.held.now.items c.loop-i.held.items c.index_mut.result.now there c.loop-i.invariant
    (record { state = c.index_mut.result.now.state; rest = c.push.new.self }) refl c.in_ok-push.ensures.items
  where
    inside : c.loop-i.i < length c.loop-i.held.items
    inside =
        let a = c.loop-i-test.true in
        let n = c.len-i-end.ensures in
        let k = c.args.held.now.ok in let long = c.loop-i.invariant.long in omega (arith, a, n, k, long)

    there : slice_get c.loop-i.held.items c.loop-i.i ≡ Some c.index_mut.result.now
    there = slice_get_read c.loop-i.held.items (length c.loop-i.held.items) c.loop-i.i c.index_mut.result.now refl inside
        c.index_mut.ensures.value

pub returns : goal.returns
returns g c =
    let same : c.loop-i.i ≡ length c.args.held.now.items =
    let a = c.loop-i-test.false in
    let n = c.len-i-end.ensures in
    let k = c.args.held.now.ok in let e = c.loop-i.auto.i-end in omega (arith, a, n, k, e) in
    let P : ℕ → Type 0 = λ z. AreTaken z c.args.op c.args.held.now.items c.loop-i.held.items in
    subst P same c.loop-i.invariant
