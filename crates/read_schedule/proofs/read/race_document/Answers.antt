-- Looked for at once, so that another value is refused at once.
use Rattle.std.proofs.Common.{rules}
use Rattle.read_schedule.proofs.read.race_document.Goals as goal

pub returns-then-is_kind-clause-document : goal.returns-then-is_kind-clause-document
returns-then-is_kind-clause-document c = search rules

pub returns-then-is_kind-clause-playable : goal.returns-then-is_kind-clause-playable
returns-then-is_kind-clause-playable c = search rules

pub returns-else-is_kind-clause-document : goal.returns-else-is_kind-clause-document
returns-else-is_kind-clause-document c = search rules
