-- Each line is read behind those before it, up to the first at fault.
use Rattle.std.proofs.Common.{◌∙◌, ◌≡◌, Bool, true, false, arith, inl, refl, subst, sym}
use Rattle.text_lines.specs.Splits.{lines_of}
use Rattle.text_lines.specs.Words.{told}
use Rattle.lines_log.specs.Faults.{is_end, IsLineFault}
use Rattle.lines_log.specs.inner.Readings.{ReadsLine, rule_of}
use Rattle.lines_log.proofs.BodyLemmas.{all_read, at_fault, one_more}
use Rattle.lines_log.proofs.PackedLemmas.{end_told, next_of, nothing_told, shorter_of, some_line}
use Rattle.lines_log.proofs.log.read_body.Goals as goal

pub read-requires-clause-known : goal.read-requires-clause-known
read-requires-clause-known c =
    let way = c.lines.invariant.way c.requires.known.0 c.requires.known.1 in (c.requires.known.0, way.lines, way.read)

pub returns-in-Err-clause-fault : goal.returns-in-Err-clause-fault
returns-in-Err-clause-fault c = λ opening read.
    let more : is_end c.lines.rest.now ≡ false = sym c.is_end.ensures ∙ c.lines-test.true in
    let some = some_line c.args.text.now.packed c.lines.rest.now more in
    at_fault opening (rule_of c.args.reader.now) c.lines.ended (lines_of (told c.args.text.now.packed c.args.body.now))
    (told c.args.text.now.packed c.lines.rest.now) some.0 some.1 c.lines.reader _
    (c.lines.invariant.way opening read) some.2 (λ lines was. inl refl)

pub returns-in-Err-read-clause-fault : goal.returns-in-Err-read-clause-fault
returns-in-Err-read-clause-fault c = λ opening read.
    let more : is_end c.lines.rest.now ≡ false = sym c.is_end.ensures ∙ c.lines-test.true in
    let last : c.is_end-last.result ≡ is_end (told c.args.text.now.packed c.in-Ok.behind.now) =
    c.is_end-last.ensures ∙ sym (end_told c.args.text.now.packed c.in-Ok.behind.now) in
    at_fault opening (rule_of c.args.reader.now) c.lines.ended (lines_of (told c.args.text.now.packed c.args.body.now))
    (told c.args.text.now.packed c.lines.rest.now) c.as_slice.result.now (told c.args.text.now.packed c.in-Ok.behind.now)
    c.lines.reader c.in-Err-read.fault (c.lines.invariant.way opening read)
    (next_of c.args.text.now.packed c.lines.rest.now c.next_line.new.line.items c.in-Ok.behind.now c.as_slice.result.now
    c.in-Ok.ensures more c.as_slice.ensures.value)
    (λ lines was. subst (λ (b : Bool). IsLineFault opening (rule_of c.lines.reader) lines c.as_slice.result.now b c.in-Err-read.fault)
    last (c.in-Err-read.ensures.fault opening lines was))

pub lines-preserved : goal.lines-preserved
lines-preserved c =
    let more : is_end c.lines.rest.now ≡ false = sym c.is_end.ensures ∙ c.lines-test.true in
    let last : c.is_end-last.result ≡ is_end (told c.args.text.now.packed c.in-Ok.behind.now) =
    c.is_end-last.ensures ∙ sym (end_told c.args.text.now.packed c.in-Ok.behind.now) in
    record {
      way = λ opening read.
          one_more opening (rule_of c.args.reader.now) c.lines.ended (lines_of (told c.args.text.now.packed c.args.body.now))
          (told c.args.text.now.packed c.lines.rest.now) c.as_slice.result.now (told c.args.text.now.packed c.in-Ok.behind.now)
          c.lines.reader c.read.new.self c.in-Ok-read.ended (c.lines.invariant.way opening read)
          (next_of c.args.text.now.packed c.lines.rest.now c.next_line.new.line.items c.in-Ok.behind.now c.as_slice.result.now
          c.in-Ok.ensures more c.as_slice.ensures.value)
          (λ lines was. subst (λ
          (b : Bool). ReadsLine opening lines c.as_slice.result.now b c.lines.reader c.read.new.self c.in-Ok-read.ended)
          last (c.in-Ok-read.ensures.read opening lines was)) c.in-Ok-read.ensures.rule;
      limits = c.in-Ok-read.ensures.rule ∙ c.lines.invariant.limits;
      room = omega (
        arith,
        c.in-Ok-read.ensures.grows,
        shorter_of c.args.text.now.packed c.lines.rest.now c.next_line.new.line.items c.in-Ok.behind.now c.in-Ok.ensures more,
        c.lines.invariant.room,
      );
    }

pub lines-smaller : goal.lines-smaller
lines-smaller c =
    let more : is_end c.lines.rest.now ≡ false = sym c.is_end.ensures ∙ c.lines-test.true in
    shorter_of c.args.text.now.packed c.lines.rest.now c.next_line.new.line.items c.in-Ok.behind.now c.in-Ok.ensures more

pub returns-clause-read : goal.returns-clause-read
returns-clause-read c = λ opening read.
    let over : is_end c.lines.rest.now ≡ true = sym c.is_end.ensures ∙ c.lines-test.false in
    all_read opening (rule_of c.args.reader.now) c.lines.ended (lines_of (told c.args.text.now.packed c.args.body.now))
    (told c.args.text.now.packed c.lines.rest.now) c.lines.reader (nothing_told c.args.text.now.packed c.lines.rest.now over)
    (c.lines.invariant.way opening read)
