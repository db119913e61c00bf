-- What was met runs forwards, and then all does.
use Rattle.std.proofs.Common.{◌≡◌, ℕ, length, Some, slice_get, refl, false, true, rules}
use Rattle.std.proofs.lemmas.Option.{slice_get_read}
use Rattle.history_search.proofs.Loops.{forwards_all, forwards_more}
use Rattle.history_search.proofs.find.first_backwards.Goals as goal

pub returns-then-is_backwards-clause-some : goal.returns-then-is_backwards-clause-some
returns-then-is_backwards-clause-some g c =
    let n : ℕ = c.loop-place.place in
    let o = c.index-ops-place.result in
    let at : slice_get c.args.ops.now n ≡ Some o =
    slice_get_read c.args.ops.now (length c.args.ops.now) n o refl (c.loop-place-test.true) c.index-ops-place.is in
    (rw at (c.if-is_backwards.ensures.0 refl), c.loop-place.invariant)

pub returns-then-is_backwards-clause-none : goal.returns-then-is_backwards-clause-none
returns-then-is_backwards-clause-none g c = search rules

pub loop-place-preserved : goal.loop-place-preserved
loop-place-preserved g c =
    let n : ℕ = c.loop-place.place in
    let o = c.index-ops-place.result in
    forwards_more c.args.ops.now n o (slice_get_read c.args.ops.now (length c.args.ops.now) n o refl (c.loop-place-test.true)
    c.index-ops-place.is) (λ t. let z : false ≡ true = c.if-is_backwards.ensures.1 t in cc) c.loop-place.invariant

pub returns-clause-some : goal.returns-clause-some
returns-clause-some g c = search rules

pub returns-clause-none : goal.returns-clause-none
returns-clause-none g c =
    forwards_all c.args.ops.now c.loop-place.place c.loop-place-test.false c.loop-place.invariant
