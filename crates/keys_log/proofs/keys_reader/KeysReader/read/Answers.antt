-- The line was an operation of its own key, which was entered.
use Rattle.std.proofs.Common.{◌≡◌, ◌∙◌, ap, subst, Option, string_bytes}
use Rattle.std.specs.Prelude.{option_map, is_some, IfSome}
use Rattle.read_line.specs.Lines.{Head}
use Rattle.read_line.specs.declared.line.LineOp.{LineOp}
use Rattle.keys_log.specs.Keys.{key_on}
use Rattle.keys_log.proofs.KeyEntryLemmas.{keyed_fault, of_own_key}
use Rattle.keys_log.proofs.keys_reader.KeysReader.read.Goals as goal

pub returns-in-Ok-clause-read : goal.returns-in-Ok-clause-read
returns-in-Ok-clause-read c = λ head first lines read.
    c.in-Ok.ensures.entered head first lines c.args.bytes.now read
    (subst (λ (o : Option LineOp). IfSome o (λ op. option_map string_bytes op.key ≡ key_on c.args.bytes.now)) c.in-Ok-Some.field-0-is
    c.in-Ok-Some.ensures.key)
    (of_own_key head lines _ c.args.last _ c.args.bytes.now c.in-Ok-Some.field-0 c.in-Ok-Some.op
    (c.is_some-limited.ensures ∙ ap (λ (h : Head). is_some h.limit) read.heads) c.in-Ok-Some.ensures.said c.in-Ok-Some.field-0-is)

pub returns-in-Err-enter-clause-fault : goal.returns-in-Err-enter-clause-fault
returns-in-Err-enter-clause-fault c = λ head first lines read.
    keyed_fault head lines c.args.bytes.now c.args.last c.in-Err-enter.fault
    (c.in-Err-enter.ensures.fault head first lines c.args.bytes.now read
    (subst (λ (o : Option LineOp). IfSome o (λ op. option_map string_bytes op.key ≡ key_on c.args.bytes.now)) c.in-Ok-Some.field-0-is
    c.in-Ok-Some.ensures.key)
    (of_own_key head lines _ c.args.last _ c.args.bytes.now c.in-Ok-Some.field-0 c.in-Ok-Some.op
    (c.is_some-limited.ensures ∙ ap (λ (h : Head). is_some h.limit) read.heads) c.in-Ok-Some.ensures.said c.in-Ok-Some.field-0-is))
