-- Looked for at once, so that another value is refused at once.
use Rattle.std.proofs.Common.{rules}
use Rattle.print_report.proofs.pieces.push_after_blank.Goals as goal

pub returns : goal.returns
returns c = search rules
