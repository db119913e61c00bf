-- The line of one operation has the name that it was given.
use Rattle.print_picture.proofs.Headlines.{limit_line, unwritten_line}
use Rattle.print_picture.proofs.reasons.put_reason_words.Goals as goal

pub returns-in-Unwritten : goal.returns-in-Unwritten
returns-in-Unwritten c =
    rw c.in-Unwritten.is
    (unwritten_line c.args.lines.now _ _ c.args.line.now _ c.name_of.ensures c.put_named_words.ensures)

pub returns-in-Limit : goal.returns-in-Limit
returns-in-Limit c =
    rw c.in-Limit.is
    (limit_line c.args.lines.now _ _ c.args.line.now _ c.name_of-in-Limit.ensures c.put_named_words-in-Limit.ensures)
