-- The little log is that of the window.
use Rattle.std.proofs.Common.{ℕ, List, subst}
use Rattle.std.proofs.lemmas.Result.{IfOk-weaker}
use Rattle.object_core.specs.declared.operation.Operation.{Operation}
use Rattle.object_registers.specs.declared.exchanging.Exchange.{Exchange}
use Rattle.object_window.specs.Windows.{IsLostAnywhere, IsWindow}
use Rattle.object_window.proofs.Found.{some_has}
use Rattle.object_window.proofs.find.is_lost_together.Goals as goal

pub returns-in-Some : goal.returns-in-Some
returns-in-Some c =
    let P : List ℕ → Type 0 = λ places. IsWindow c.args.window.now.first c.args.window.now.last places c.args.log.now
    c.in-Some.little.items in
    let Q : List (Operation Exchange) → Type 0 = λ little. IsLostAnywhere little in
    let is = some_has c.in_ok-little.field-0 (λ v. IsWindow c.args.window.now.first c.args.window.now.last c.as_slice.result.now
    c.args.log.now v.items) c.in-Some.little c.in_ok-little.ensures c.in-Some.is in
    IfOk-weaker c.is_lost_anywhere.result _ _ (λ b lost told. record {
      little = c.in-Some.little.items;
      is = subst P c.as_slice.ensures.value is;
      lost = subst Q c.as_slice-in-Some.ensures.value (lost told);
      end = c.requires;
    }) c.is_lost_anywhere.ensures
