-- The header and the body were read.
use Rattle.std.proofs.Common.{◌∙◌, ◌≡◌, true, false, ap, inl, inr, refl, string_bytes, sym}
use Rattle.text_lines.specs.Splits.{lines_of}
use Rattle.text_lines.specs.Words.{text_in, told}
use Rattle.read_line.specs.Lines.{head_seen}
use Rattle.lines_log.specs.Faults.{is_end}
use Rattle.lines_log.specs.Logs.{text_of}
use Rattle.lines_log.specs.inner.Readings.{rule_of}
use Rattle.lines_log.proofs.BodyLemmas.{assembled, same_rule}
use Rattle.lines_log.proofs.FaultLemmas.{header_fault, later_fault}
use Rattle.lines_log.proofs.PackedLemmas.{next_of, nothing_told, told_text}
use Rattle.lines_log.proofs.log.read_lines.Goals as goal

pub returns-then-is_end-clause-fault : goal.returns-then-is_end-clause-fault
returns-then-is_end-clause-fault c =
    let over : is_end c.text_of-codes.result.now ≡ true = sym c.is_end.ensures ∙ c.if-is_end.true in
    let is_text : told c.args.text.now.packed c.text_of-codes.result.now ≡ text_of (text_in c.args.text.now) =
    ap (told c.args.text.now.packed) (c.text_of-codes.ensures ∙ ap text_of c.as_slice.ensures.value)
    ∙ told_text c.args.text.now.packed c.args.text.now.codes.items in
    inr (inl (sym is_text ∙ nothing_told c.args.text.now.packed c.text_of-codes.result.now over, c.refused_at.ensures))

pub returns-in-Err-read_header-clause-fault : goal.returns-in-Err-read_header-clause-fault
returns-in-Err-read_header-clause-fault c =
    let more : is_end c.text_of-codes.result.now ≡ false = sym c.is_end.ensures ∙ c.if-is_end.false in
    let is_text : told c.args.text.now.packed c.text_of-codes.result.now ≡ text_of (text_in c.args.text.now) =
    ap (told c.args.text.now.packed) (c.text_of-codes.ensures ∙ ap text_of c.as_slice.ensures.value)
    ∙ told_text c.args.text.now.packed c.args.text.now.codes.items in
    header_fault (text_in c.args.text.now) (told c.args.text.now.packed c.text_of-codes.result.now) c.as_slice-2.result.now
    (told c.args.text.now.packed c.in-Ok.body.now) c.in-Err-read_header.why
    c.refused_at-in-Err-read_header.result is_text
    (next_of c.args.text.now.packed c.text_of-codes.result.now c.next_line.new.line.items c.in-Ok.body.now c.as_slice-2.result.now
    c.in-Ok.ensures more c.as_slice-2.ensures.value)
    c.in-Err-read_header.ensures c.refused_at-in-Err-read_header.ensures

pub returns-in-Err-read_body-clause-fault : goal.returns-in-Err-read_body-clause-fault
returns-in-Err-read_body-clause-fault c =
    let more : is_end c.text_of-codes.result.now ≡ false = sym c.is_end.ensures ∙ c.if-is_end.false in
    let is_text : told c.args.text.now.packed c.text_of-codes.result.now ≡ text_of (text_in c.args.text.now) =
    ap (told c.args.text.now.packed) (c.text_of-codes.ensures ∙ ap text_of c.as_slice.ensures.value)
    ∙ told_text c.args.text.now.packed c.args.text.now.codes.items in
    later_fault (text_in c.args.text.now) (told c.args.text.now.packed c.text_of-codes.result.now) c.as_slice-2.result.now
    (told c.args.text.now.packed c.in-Ok.body.now)
    (head_seen c.in-Ok-read_header.header) (rule_of c.in-Ok-new.reader) c.in-Err-read_body.fault is_text
    (next_of c.args.text.now.packed c.text_of-codes.result.now c.next_line.new.line.items c.in-Ok.body.now c.as_slice-2.result.now
    c.in-Ok.ensures more c.as_slice-2.ensures.value)
    c.in-Ok-read_header.ensures
    (same_rule (head_seen c.in-Ok-read_header.header) (lines_of (told c.args.text.now.packed c.in-Ok.body.now)) _ _
    c.in-Ok-new.ensures.rule c.in-Ok-first_key.ensures)
    (c.in-Err-read_body.ensures.fault (string_bytes c.in-Ok-read_header.header.opening) c.in-Ok-new.ensures.read)

pub returns-in-Ok-finish-clause-log : goal.returns-in-Ok-finish-clause-log
returns-in-Ok-finish-clause-log c =
    let more : is_end c.text_of-codes.result.now ≡ false = sym c.is_end.ensures ∙ c.if-is_end.false in
    let is_text : told c.args.text.now.packed c.text_of-codes.result.now ≡ text_of (text_in c.args.text.now) =
    ap (told c.args.text.now.packed) (c.text_of-codes.ensures ∙ ap text_of c.as_slice.ensures.value)
    ∙ told_text c.args.text.now.packed c.args.text.now.codes.items in
    assembled (text_in c.args.text.now) (told c.args.text.now.packed c.text_of-codes.result.now) c.as_slice-2.result.now
    (told c.args.text.now.packed c.in-Ok.body.now)
    (head_seen c.in-Ok-read_header.header) c.unwrap_or-limit.result c.in-Ok-read_body.ended c.read_body.new.reader c.in-Ok-finish.log
    is_text
    (next_of c.args.text.now.packed c.text_of-codes.result.now c.next_line.new.line.items c.in-Ok.body.now c.as_slice-2.result.now
    c.in-Ok.ensures more c.as_slice-2.ensures.value)
    c.in-Ok-read_header.ensures
    (c.in-Ok-read_body.ensures.rule
    ∙ same_rule (head_seen c.in-Ok-read_header.header) (lines_of (told c.args.text.now.packed c.in-Ok.body.now)) _ _
    c.in-Ok-new.ensures.rule c.in-Ok-first_key.ensures)
    (c.in-Ok-read_body.ensures.read (string_bytes c.in-Ok-read_header.header.opening) c.in-Ok-new.ensures.read)
    c.unwrap_or-limit.ensures c.in-Ok-finish.ensures

pub returns-then-is_end-clause-log : goal.returns-then-is_end-clause-log
returns-then-is_end-clause-log c = tt

pub returns-in-Err-read_header-clause-log : goal.returns-in-Err-read_header-clause-log
returns-in-Err-read_header-clause-log c = tt

pub returns-in-Err-read_body-clause-log : goal.returns-in-Err-read_body-clause-log
returns-in-Err-read_body-clause-log c = tt

pub returns-in-Ok-finish-clause-fault : goal.returns-in-Ok-finish-clause-fault
returns-in-Ok-finish-clause-fault c = tt

pub returns-in-Err : goal.returns-in-Err
returns-in-Err c = record { log = tt; fault = inl refl }

pub returns-in-Err-first_key : goal.returns-in-Err-first_key
returns-in-Err-first_key c = record { log = tt; fault = inl refl }

pub returns-in-Err-new : goal.returns-in-Err-new
returns-in-Err-new c = record { log = tt; fault = inl refl }

pub returns : goal.returns
returns c = record { log = tt; fault = inl refl }

pub read_body-requires-clause-known : goal.read_body-requires-clause-known
read_body-requires-clause-known c = (string_bytes c.in-Ok-read_header.header.opening, c.in-Ok-new.ensures.read)
