-- One more copy.
use Rattle.std.proofs.Common.{◌≡◌, ℕ, ◌+◌, ◌≤◌, List, length, sym, arith, subst}
use Rattle.object_sweep.specs.declared.configuration.Configuration.{Configuration}
use Rattle.object_sweep.specs.inner.Beams.{AreCopies}
use Rattle.object_sweep.proofs.Beams.{copied_more, copied_none}
use Rattle.object_sweep.proofs.front.copies.Goals as goal

pub loop-place-init : goal.loop-place-init
loop-place-init g c =
    let P : List (Configuration g.row.O.Denot) → Type 0 = λ z. AreCopies 0 c.args.held.now z in
    subst P (sym c.in_ok-found.ensures.items) (copied_none c.args.held.now)

pub loop-place-preserved : goal.loop-place-preserved
loop-place-preserved g c =
    let P : List (Configuration g.row.O.Denot) → Type 0 = λ z. AreCopies (c.loop-place.place + 1) c.args.held.now z in
    subst P (sym c.in_ok-push.ensures.items) (copied_more c.loop-place.place c.args.held.now c.loop-place.found.items
    c.in_ok-copied.field-0 c.loop-place.invariant c.in_ok-copied.ensures)

pub returns : goal.returns
returns g c =
    let done : length c.args.held.now ≤ c.loop-place.place = c.loop-place-test.false in
    let same : c.loop-place.place ≡ length c.args.held.now = let l = c.loop-place.auto.place-end in omega arith in
    let P : ℕ → Type 0 = λ z. AreCopies z c.args.held.now c.loop-place.found.items in subst P same c.loop-place.invariant
