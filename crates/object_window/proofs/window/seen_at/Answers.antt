-- One more operation, as it is seen.
use Rattle.std.proofs.Common.{◌≡◌, ◌≤◌, [], ◌∷◌, ◌++◌, length, get_or, slice_get, Some, sym, ◌∙◌, subst, arith}
use Rattle.std.proofs.lemmas.Option.{slice_get-get_or}
use Rattle.object_core.specs.declared.operation.Operation.{Operation}
use Rattle.object_registers.specs.declared.exchanging.Exchange.{Exchange}
use Rattle.object_window.proofs.Found.{all_seen, none_seen, one_seen}
use Rattle.object_window.proofs.window.seen_at.Goals as goal

pub loop-i-init : goal.loop-i-init
loop-i-init c = none_seen c.args.first c.args.last c.args.places.now c.args.log.now c.new-little.result.items c.new-little.ensures.items

pub loop-i-preserved : goal.loop-i-preserved
loop-i-preserved c =
    let here : slice_get c.args.places.now c.loop-i.i ≡ Some (get_or c.args.places.now c.loop-i.i 0) =
    slice_get-get_or c.args.places.now c.loop-i.i 0 c.loop-i-test.true in
    let Q : Operation Exchange → Type 0 = λ z. c.push.new.self.items ≡ c.loop-i.little.items ++ z ∷ [] in
    one_seen c.loop-i.i c.args.first c.args.last c.args.places.now c.args.log.now c.loop-i.little.items c.push.new.self.items
    c.loop-i.invariant (get_or c.args.places.now c.loop-i.i 0) here c.in-Some.op (sym c.op_at.ensures ∙ c.in-Some.is)
    (subst Q c.seen.ensures c.in_ok-push.ensures.items)

pub returns : goal.returns
returns c =
    let done : length c.args.places.now ≤ c.loop-i.i = c.loop-i-test.false in
    let same : c.loop-i.i ≡ length c.args.places.now = let l = c.loop-i.auto.i-end in omega arith in
    all_seen c.args.first c.args.last c.args.places.now c.args.log.now c.loop-i.little.items c.loop-i.i same c.loop-i.invariant
