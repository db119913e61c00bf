-- By the first source: there is none, it began later, or it began in time.
use Rattle.std.proofs.Common.{ℕ, ◌<◌, List, length, Option, subst}
use Rattle.std.specs.Prelude.{IsSomeAnd}
use Rattle.std.proofs.lemmas.Bool.{iff_false}
use Rattle.std.proofs.lemmas.Option.{slice_get_within}
use Rattle.object_core.specs.declared.operation.Operation.{Operation}
use Rattle.object_registers.specs.declared.exchanging.Exchange.{Exchange}
use Rattle.object_sources.specs.Sources.{MayLeave}
use Rattle.object_sources.specs.inner.Firsts.{IsFirstBelow}
use Rattle.object_sources.proofs.Sourced.{first_late, in_time}
use Rattle.object_sources.proofs.source.why_unsourced.Goals as goal

within : (log : List (Operation Exchange)) (value q : ℕ) → MayLeave log value q → q < length log
within log value q s = slice_get_within log q s.op s.at

pub returns-in-None : goal.returns-in-None
returns-in-None c place opening at found = record {
  op = c.args.op;
  value = c.args.value;
  at = at;
  found = found;
  none = λ q s.
      (let P : Option ℕ → Type 0 = λ z. IsFirstBelow c.args.log.now c.args.value (length c.args.log.now) z in
      (subst P c.in-None.is c.first_source.ensures) q (within c.args.log.now c.args.value q s) s);
}

pub returns-then-ended_before : goal.returns-then-ended_before
returns-then-ended_before c place opening at found =
    let P : Option ℕ → Type 0 = λ z. IsFirstBelow c.args.log.now c.args.value (length c.args.log.now) z in
    let Q : ℕ → Type 0 = λ z. IsSomeAnd c.args.op.ends (λ end. end < z) in
    first_late c.args.log.now c.args.value opening place c.args.op at found (length c.args.log.now) c.in-Some.source
    (subst P c.in-Some.is c.first_source.ensures) (within c.args.log.now c.args.value)
    (subst Q c.starts_at.ensures (c.ended_before.ensures.0 c.if-ended_before.true))

pub returns-else-ended_before : goal.returns-else-ended_before
returns-else-ended_before c place opening at found =
    let P : Option ℕ → Type 0 = λ z. IsFirstBelow c.args.log.now c.args.value (length c.args.log.now) z in
    let Q : ℕ → Type 0 = λ z. ¬ IsSomeAnd c.args.op.ends (λ end. end < z) in
    in_time c.args.log.now c.args.value opening place c.args.op at found c.in-Some.source
    (subst P c.in-Some.is c.first_source.ensures).0
    (subst Q c.starts_at.ensures (iff_false c.ended_before.ensures c.if-ended_before.false))
