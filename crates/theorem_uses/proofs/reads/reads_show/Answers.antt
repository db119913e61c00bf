-- Each is a part of the read.
use Rattle.theorem_uses.proofs.Taken.{four_slot_reads, triple_reads}
use Rattle.theorem_uses.proofs.reads.reads_show.Goals as goal

pub returns-clause-four_slot : goal.returns-clause-four_slot
returns-clause-four_slot g c = four_slot_reads

pub returns-clause-triple : goal.returns-clause-triple
returns-clause-triple g c = triple_reads
