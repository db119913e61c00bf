-- Looked for at once, so that another value is refused at once.
use Rattle.std.proofs.Common.{rules}
use Rattle.board_live.proofs.receipts.Receipt.from.Goals as goal

pub returns : goal.returns
returns g c = search rules
