-- The parts of a window.
use Rattle.std.proofs.Common.{List, subst}
use Rattle.object_core.specs.declared.operation.Operation.{Operation}
use Rattle.object_registers.specs.declared.exchanging.Exchange.{Exchange}
use Rattle.object_window.specs.Windows.{AreSeen}
use Rattle.object_window.specs.inner.Parts.{AreOthersFree}
use Rattle.object_window.proofs.Found.{some_has}
use Rattle.object_window.proofs.window.little_log.Goals as goal

pub returns-then-are_others_free : goal.returns-then-are_others_free
returns-then-are_others_free c =
    let P : List (Operation Exchange) → Type 0 =
    λ z. AreOthersFree c.args.first c.args.last c.args.places.now c.args.log.now z in
    record {
      rising = c.do_rise.ensures c.if-not-do_rise.false;
      there = some_has c.in_ok-little.field-0 (λ v. AreSeen c.args.first c.args.last c.args.places.now c.args.log.now v.items)
          c.in-Some.little c.in_ok-little.ensures c.in-Some.is;
      others = subst P c.as_slice.ensures.value (c.are_others_free.ensures c.if-are_others_free.true);
    }
