-- By cases on the event: only W4 turns a pair's bit, and it turns it to the newest record, so no pair's record grows older.
use Rattle.four_slot_core.proofs.events.KeepingFresh.{opening_is_fresh, numbers_after_write, numbers_after_read}
use Rattle.four_slot_core.proofs.laws.events_keep_freshness.Goals as goal

pub returns : goal.returns
returns g c = record { opening = opening_is_fresh; write = numbers_after_write; read = numbers_after_read }
