-- Each step gave a value, or the first refusal is passed on.
use Rattle.std.proofs.Common.{ap, refl, string_bytes, sym, ◌∙◌}
use Rattle.std.proofs.lemmas.Result.{IfOk-from_err}
use Rattle.read_document.specs.Refusals.{some_or}
use Rattle.read_document.specs.Values.{as_whole, optional}
use Rattle.read_line.specs.Lines.{allowed, has_record, operation_in}
use Rattle.read_line.proofs.StepLemmas.{as_there, next, refuses, stop}
use Rattle.read_line.proofs.operation.operation_in.Goals as goal

pub returns-in_err-required : goal.returns-in_err-required
unfolding operation_in
returns-in_err-required c = record {
  said = refuses _ c.from_residual.result _ _ c.from_residual.ensures
      (λ has. stop _ (sym c.in_err-required.ensures));
  allowed = IfOk-from_err c.from_residual.result _ c.from_residual.ensures.0;
}

pub returns-in_err-who : goal.returns-in_err-who
unfolding operation_in
returns-in_err-who c = record {
  said = refuses _ c.from_residual-in_err-who.result _ _ c.from_residual-in_err-who.ensures
      (λ has. next _ (sym c.in_ok-required.ensures) (stop _ (sym c.in_err-who.ensures)));
  allowed = IfOk-from_err c.from_residual-in_err-who.result _ c.from_residual-in_err-who.ensures.0;
}

pub returns-in_err-kind : goal.returns-in_err-kind
unfolding operation_in
returns-in_err-kind c = record {
  said = refuses _ c.from_residual-in_err-kind.result _ _ c.from_residual-in_err-kind.ensures
      (λ has. next _ (sym c.in_ok-required.ensures) (next _ (sym c.in_ok-who.ensures)
      (stop _ (ap (some_or _) (sym c.kind_in.ensures) ∙ sym c.in_err-kind.ensures))));
  allowed = IfOk-from_err c.from_residual-in_err-kind.result _ c.from_residual-in_err-kind.ensures.0;
}

pub returns-in_err-begin : goal.returns-in_err-begin
unfolding operation_in
returns-in_err-begin c = record {
  said = refuses _ c.from_residual-in_err-begin.result _ _ c.from_residual-in_err-begin.ensures
      (λ has. next _ (sym c.in_ok-required.ensures) (next _ (sym c.in_ok-who.ensures)
      (next _ (ap (some_or _) (sym c.kind_in.ensures) ∙ sym c.in_ok-kind.ensures) (stop _ (sym c.in_err-begin.ensures)))));
  allowed = IfOk-from_err c.from_residual-in_err-begin.result _ c.from_residual-in_err-begin.ensures.0;
}

pub returns-in_err-end : goal.returns-in_err-end
unfolding operation_in
returns-in_err-end c = record {
  said = refuses _ c.from_residual-in_err-end.result _ _ c.from_residual-in_err-end.ensures
      (λ has. next _ (sym c.in_ok-required.ensures) (next _ (sym c.in_ok-who.ensures)
      (next _ (ap (some_or _) (sym c.kind_in.ensures) ∙ sym c.in_ok-kind.ensures) (next _ (sym c.in_ok-begin.ensures)
      (stop _ (ap (some_or _) (sym (c.optional_number.ensures ∙ ap (optional as_whole) c.get.ensures)) ∙ sym c.in_err-end.ensures))))));
  allowed = IfOk-from_err c.from_residual-in_err-end.result _ c.from_residual-in_err-end.ensures.0;
}

pub returns-in_err-record : goal.returns-in_err-record
unfolding operation_in
returns-in_err-record c = record {
  said = refuses _ c.from_residual-in_err-record.result _ _ c.from_residual-in_err-record.ensures
      (λ has. next _ (sym c.in_ok-required.ensures) (next _ (sym c.in_ok-who.ensures)
      (next _ (ap (some_or _) (sym c.kind_in.ensures) ∙ sym c.in_ok-kind.ensures) (next _ (sym c.in_ok-begin.ensures)
      (next _ (ap (some_or _) (sym (c.optional_number.ensures ∙ ap (optional as_whole) c.get.ensures)) ∙ sym c.in_ok-end.ensures)
      (stop _ (c.in_err-record.ensures has)))))));
  allowed = IfOk-from_err c.from_residual-in_err-record.result _ c.from_residual-in_err-record.ensures.0;
}

pub returns-in_err-key : goal.returns-in_err-key
unfolding operation_in
returns-in_err-key c = record {
  said = refuses _ c.from_residual-in_err-key.result _ _ c.from_residual-in_err-key.ensures
      (λ has. next _ (sym c.in_ok-required.ensures) (next _ (sym c.in_ok-who.ensures)
      (next _ (ap (some_or _) (sym c.kind_in.ensures) ∙ sym c.in_ok-kind.ensures) (next _ (sym c.in_ok-begin.ensures)
      (next _ (ap (some_or _) (sym (c.optional_number.ensures ∙ ap (optional as_whole) c.get.ensures)) ∙ sym c.in_ok-end.ensures)
      (next _ c.in_ok-record.ensures (stop _ (c.in_err-key.ensures has))))))));
  allowed = IfOk-from_err c.from_residual-in_err-key.result _ c.from_residual-in_err-key.ensures.0;
}

pub returns-in_err-allowed : goal.returns-in_err-allowed
unfolding operation_in
returns-in_err-allowed c = record {
  said = refuses _ c.from_residual-in_err-allowed.result _ _ c.from_residual-in_err-allowed.ensures
      (λ has. next _ (sym c.in_ok-required.ensures) (next _ (sym c.in_ok-who.ensures)
      (next _ (ap (some_or _) (sym c.kind_in.ensures) ∙ sym c.in_ok-kind.ensures) (next _ (sym c.in_ok-begin.ensures)
      (next _ (ap (some_or _) (sym (c.optional_number.ensures ∙ ap (optional as_whole) c.get.ensures)) ∙ sym c.in_ok-end.ensures)
      (next _ c.in_ok-record.ensures (next _ c.in_ok-key.ensures
      (stop _ (ap (allowed _ _ _) (as_there string_bytes c.in_ok-record.record ∙ sym c.is_some.ensures) ∙ sym c.in_err-allowed.ensures.allowed)))))))));
  allowed = IfOk-from_err c.from_residual-in_err-allowed.result _ c.from_residual-in_err-allowed.ensures.0;
}

pub returns : goal.returns
unfolding operation_in
returns c = record {
  said = next _ (sym c.in_ok-required.ensures) (next _ (sym c.in_ok-who.ensures)
      (next _ (ap (some_or _) (sym c.kind_in.ensures) ∙ sym c.in_ok-kind.ensures) (next _ (sym c.in_ok-begin.ensures)
      (next _ (ap (some_or _) (sym (c.optional_number.ensures ∙ ap (optional as_whole) c.get.ensures)) ∙ sym c.in_ok-end.ensures)
      (next _ c.in_ok-record.ensures (next _ c.in_ok-key.ensures
      (next _ (ap (allowed _ _ _) (as_there string_bytes c.in_ok-record.record ∙ sym c.is_some.ensures) ∙ sym c.in_ok-allowed.ensures.allowed)
      refl)))))));
  allowed = record {
    forwards = c.in_ok-allowed.ensures.forwards;
    recorded = ap (has_record _ _) (sym c.is_some.ensures) ∙ c.in_ok-allowed.ensures.recorded;
  };
}
