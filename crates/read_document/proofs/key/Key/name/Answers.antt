-- Looked for at once, so that another value is refused at once.
use Rattle.std.proofs.Common.{rules}
use Rattle.read_document.proofs.key.Key.name.Goals as goal

pub returns-in-Limit : goal.returns-in-Limit
returns-in-Limit c = search rules
