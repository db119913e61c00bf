-- What is sure to have been found, or nothing is.
use Rattle.std.proofs.Common.{◌≡◌, ℕ, Some, sym, ◌∙◌, subst, slice_get}
use Rattle.std.proofs.lemmas.Option.{same_Some}
use Rattle.object_core.specs.declared.operation.Operation.{Operation}
use Rattle.object_registers.specs.declared.exchanging.Exchange.{Exchange}
use Rattle.object_sources.specs.Sources.{HasFoundAnother}
use Rattle.object_sources.proofs.source.unsourced_at.Goals as goal

pub returns-in-Some-found_at : goal.returns-in-Some-found_at
returns-in-Some-found_at c =
    c.why_unsourced.ensures c.args.place c.args.opening (sym c.op_at.ensures ∙ c.in-Some.is)
    ((c.found_at.ensures c.in-Some-found_at.value).0 c.in-Some-found_at.is)

pub returns-in-None : goal.returns-in-None
returns-in-None c = (λ u. none u.op u.value u.at u.found, λ w h. none h.op h.value h.at h.found)
  where
    none : (op : Operation Exchange) (value : ℕ) → slice_get c.args.log.now c.args.place ≡ Some op → HasFoundAnother c.args.opening value op → ⊥
    none op value at found =
        let same : c.in-Some.op ≡ op = same_Some c.in-Some.op op (sym (sym c.op_at.ensures ∙ c.in-Some.is) ∙ at) in
        let some = (c.found_at.ensures value).1 (subst (HasFoundAnother c.args.opening value) (sym same) found) in
        let n = c.in-None.is in
        cc
