-- The slot is the one of this number.
use Rattle.four_slot_core.proofs.laws.reader_at.Goals as goal

pub returns : goal.returns
returns g c = (c.numbered.result, c.numbered.ensures, c.with_reader.ensures)
