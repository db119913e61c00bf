-- The text isn't empty, so it has a first line.
use Rattle.std.proofs.Common.{rules}
use Rattle.text_lines.proofs.SplitLemmas.{is_some_list, split_all, split_within}
use Rattle.text_lines.proofs.split.split_line.Goals as goal

pub returns-then-end-bytes : goal.returns-then-end-bytes
returns-then-end-bytes c = split_within c.args.bytes.now c.line_end-end.result c.line_end-end.ensures c.if-end-bytes.true
    (is_some_list c.args.bytes.now (search rules))

pub returns-else-end-bytes : goal.returns-else-end-bytes
returns-else-end-bytes c = split_all c.args.bytes.now c.line_end-end.result c.line_end-end.ensures c.if-end-bytes.false
    (is_some_list c.args.bytes.now (search rules))
