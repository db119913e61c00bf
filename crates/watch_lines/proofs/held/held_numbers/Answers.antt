-- Those of one more are added, and at last of all.
use Rattle.std.proofs.Common.{◌≡◌, length, refl, subst, slice_get, Some, List}
use Rattle.std.proofs.lemmas.Option.{slice_get_read}
use Rattle.object_core.specs.declared.operation.Operation.{Operation}
use Rattle.object_watch.specs.declared.remainder.Remainder.{Remainder}
use Rattle.watch_lines.specs.Kept.{AddsTo, AreNaming}
use Rattle.watch_lines.specs.declared.lined.Lined.{Lined}
use Rattle.watch_lines.specs.declared.lined.LinedRegister.{LinedRegister}
use Rattle.watch_lines.proofs.KeptLemmas.{held_all, held_first, held_more, only_added}
use Rattle.watch_lines.proofs.held.held_numbers.Goals as goal

pub loop-i-init : goal.loop-i-init
loop-i-init c = held_first c.args.held.now c.new-numbers.result

pub loop-i-preserved : goal.loop-i-preserved
loop-i-preserved c =
    let one : Remainder LinedRegister Lined = c.index-held-i.result in
    let here : slice_get c.args.held.now c.loop-i.i ≡ Some one =
    slice_get_read c.args.held.now (length c.args.held.now) c.loop-i.i one refl c.loop-i-test.true c.index-held-i.is in
    let rest : c.as_slice.result.now ≡ one.rest.items = c.as_slice.ensures.value in
    let P : List (Operation Lined) → Type 0 = λ z. AddsTo c.add.new.numbers c.add_all.new.numbers (AreNaming z) in
    held_more c.args.held.now c.loop-i.i one c.new-numbers.result c.loop-i.numbers c.add.new.numbers c.add_all.new.numbers here
    c.loop-i.invariant c.in_ok-add.ensures (subst P rest c.in_ok-add_all.ensures)

pub returns : goal.returns
returns c =
    only_added c.args.held.now c.new-numbers.result c.loop-i.numbers c.new-numbers.ensures.empty
    (held_all c.args.held.now c.loop-i.i c.new-numbers.result c.loop-i.numbers c.loop-i-test.false c.loop-i.invariant)
