-- Looked for at once, so that another value is refused at once.
use Rattle.std.proofs.Common.{rules}
use Rattle.board_live.proofs.record.BandRecordLaw.fits.Goals as goal

pub returns : goal.returns
returns c = search rules
