-- Later reads rise by number.
use Rattle.theorem_uses.proofs.Rereading.{four_slot_never_falls, triple_never_falls}
use Rattle.theorem_uses.proofs.reads.stale_reads_show.Goals as goal

pub returns-clause-four_slot : goal.returns-clause-four_slot
returns-clause-four_slot g c = four_slot_never_falls

pub returns-clause-triple : goal.returns-clause-triple
returns-clause-triple g c = triple_never_falls
