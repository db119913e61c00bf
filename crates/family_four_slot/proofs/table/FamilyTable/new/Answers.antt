-- Copies of a word and of the record are a family at the start.
use Rattle.family_four_slot.proofs.Starts.{four_slots_start}
use Rattle.family_four_slot.proofs.Parting.{first_done, first_shape}
use Rattle.family_four_slot.specs.Plans.{DoesAsPlanned}
use Rattle.family_four_slot.proofs.table.FamilyTable.new.Goals as goal

pub new-requires-clause-starts : goal.new-requires-clause-starts
new-requires-clause-starts g c =
    let o = c.args.first in
    let n = c.args.processes in
    four_slots_start g.T.Lawful.fits g.T.Lawful.rises (DoesAsPlanned g.T.Planned.plan o c.args.limit n) o n c.requires.lawful
    (λ i l. (first_shape o n i l c.requires.some.1, c.requires.plan i _ l (first_done o n i)))
