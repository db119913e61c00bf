-- Each is a part of it.
use Rattle.theorem_uses.proofs.Played.{safe_slots, accesses}
use Rattle.theorem_uses.proofs.mechanisms.safe_slots_show.Goals as goal

pub returns-clause-slots : goal.returns-clause-slots
returns-clause-slots g c = safe_slots

pub returns-clause-accesses : goal.returns-clause-accesses
returns-clause-accesses g c = accesses
