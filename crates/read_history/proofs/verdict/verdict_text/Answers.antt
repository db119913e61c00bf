-- Looked for at once, so that another value is refused at once.
use Rattle.std.proofs.Common.{rules}
use Rattle.read_history.proofs.verdict.verdict_text.Goals as goal

pub returns-in-Listing : goal.returns-in-Listing
returns-in-Listing c = search rules
