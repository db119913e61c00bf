-- Each line is read behind those before it.
use Rattle.std.proofs.Common.{◌≡◌, ◌∙◌, Bool, true, false, subst, sym}
use Rattle.text_lines.specs.Splits.{lines_of}
use Rattle.lines_log.specs.Faults.{is_end}
use Rattle.text_lines.specs.Words.{told}
use Rattle.lines_log.proofs.PackedLemmas.{end_told, next_of, nothing_told, shorter_of}
use Rattle.whole_log.specs.inner.WholeReadings.{ReadsWholeLine, whole_rule}
use Rattle.whole_log.proofs.WholeBodies.{all_read, one_more}
use Rattle.whole_log.proofs.log.read_body.Goals as goal

pub read-requires : goal.read-requires
read-requires c =
    let way = c.lines.invariant.way c.requires.0 c.requires.1 in (c.requires.0, way.lines, way.read)

pub lines-preserved : goal.lines-preserved
lines-preserved c =
    let more : is_end c.lines.rest.now ≡ false = sym c.is_end.ensures ∙ c.lines-test.true in
    let last : c.is_end-last.result ≡ is_end (told c.args.text.now.packed c.in_ok-behind.behind.now) =
    c.is_end-last.ensures ∙ sym (end_told c.args.text.now.packed c.in_ok-behind.behind.now) in
    record {
      way = λ opening read.
          one_more opening (whole_rule c.args.reader.now) c.lines.ended (lines_of (told c.args.text.now.packed c.args.body.now))
          (told c.args.text.now.packed c.lines.rest.now) c.as_slice.result.now
          (told c.args.text.now.packed c.in_ok-behind.behind.now) c.lines.reader c.read.new.self c.in-Ok.ended
          (c.lines.invariant.way opening read)
          (next_of c.args.text.now.packed c.lines.rest.now c.next_line.new.line.items c.in_ok-behind.behind.now c.as_slice.result.now
          c.in_ok-behind.ensures more c.as_slice.ensures.value)
          (λ lines was. subst
          (λ (b : Bool). ReadsWholeLine opening lines c.as_slice.result.now b c.lines.reader c.read.new.self c.in-Ok.ended)
          last (c.in-Ok.ensures.read opening lines was)) c.in-Ok.ensures.rule;
      limits = c.in-Ok.ensures.rule ∙ c.lines.invariant.limits;
    }

pub lines-smaller : goal.lines-smaller
lines-smaller c =
    let more : is_end c.lines.rest.now ≡ false = sym c.is_end.ensures ∙ c.lines-test.true in
    shorter_of c.args.text.now.packed c.lines.rest.now c.next_line.new.line.items c.in_ok-behind.behind.now c.in_ok-behind.ensures more

pub returns-clause-read : goal.returns-clause-read
returns-clause-read c = λ opening read.
    let over : is_end c.lines.rest.now ≡ true = sym c.is_end.ensures ∙ c.lines-test.false in
    all_read opening (whole_rule c.args.reader.now) c.lines.ended (lines_of (told c.args.text.now.packed c.args.body.now))
    (told c.args.text.now.packed c.lines.rest.now) c.lines.reader
    (nothing_told c.args.text.now.packed c.lines.rest.now over) (c.lines.invariant.way opening read)
