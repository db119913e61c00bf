-- Looked for at once, so that another value is refused at once.
use Rattle.std.proofs.Common.{rules}
use Rattle.print_report.proofs.races.push_origin.Goals as goal

pub returns-in-Some : goal.returns-in-Some
returns-in-Some c = search rules
