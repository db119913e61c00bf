-- The header and the body were read.
use Rattle.std.proofs.Common.{◌≡◌, ◌∙◌, false, ap, string_bytes, sym}
use Rattle.text_lines.specs.Splits.{lines_of}
use Rattle.lines_log.specs.Faults.{is_end}
use Rattle.lines_log.specs.Logs.{text_of}
use Rattle.text_lines.specs.Words.{text_in, told}
use Rattle.read_line.specs.Lines.{head_seen}
use Rattle.lines_log.proofs.BodyLemmas.{same_rule}
use Rattle.lines_log.proofs.PackedLemmas.{next_of, told_text}
use Rattle.whole_log.proofs.WholeBodies.{assembled}
use Rattle.whole_log.proofs.log.read_whole.Goals as goal

pub returns : goal.returns
returns c =
    let more : is_end c.text_of-codes.result.now ≡ false = sym c.is_end.ensures ∙ c.if-is_end.false in
    let is_text : told c.args.text.now.packed c.text_of-codes.result.now ≡ text_of (text_in c.args.text.now) =
    ap (told c.args.text.now.packed) (c.text_of-codes.ensures ∙ ap text_of c.as_slice.ensures.value)
    ∙ told_text c.args.text.now.packed c.args.text.now.codes.items in
    assembled (text_in c.args.text.now) (told c.args.text.now.packed c.text_of-codes.result.now) c.as_slice-2.result.now
    (told c.args.text.now.packed c.in_ok-body.body.now) (head_seen c.in_ok-header.header)
    c.in_ok-ended.ended c.read_body.new.reader c.finish.result is_text
    (next_of c.args.text.now.packed c.text_of-codes.result.now c.next_line.new.line.items c.in_ok-body.body.now c.as_slice-2.result.now
    c.in_ok-body.ensures more c.as_slice-2.ensures.value)
    c.in_ok-header.ensures
    (c.in_ok-ended.ensures.rule
    ∙ same_rule (head_seen c.in_ok-header.header) (lines_of (told c.args.text.now.packed c.in_ok-body.body.now)) _ _
    c.in_ok-reader.ensures.rule c.in_ok-key.ensures)
    (c.in_ok-ended.ensures.read (string_bytes c.in_ok-header.header.opening) c.in_ok-reader.ensures.read) c.finish.ensures
