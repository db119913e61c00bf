-- The one seat has all processes, of which the last state of the table shows what they did.
use Rattle.std.proofs.Common.{sym, ◌∙◌}
use Rattle.family_four_slot.proofs.Parting.{all_scheduled, all_atomic, all_say}
use Rattle.family_four_slot.proofs.family.FourSlotFamilyFamily.finish.Goals as goal

pub gathered-seat-requires-clause-own : goal.gathered-seat-requires-clause-own
gathered-seat-requires-clause-own g c = λ i s e. (c.requires.1 i s e).0.table

pub returns-clause-scheduled : goal.returns-clause-scheduled
returns-clause-scheduled g c =
    let all = c.gathered-seat.ensures.all in
    all_scheduled c.args.self c.args.seats.items c.requires.1 all.0 all.2 (c.close.ensures all.0 all.1)

pub returns-clause-atomic : goal.returns-clause-atomic
returns-clause-atomic g c =
    let all = c.gathered-seat.ensures.all in
    all_atomic c.args.self c.args.seats.items c.requires.1 all.0 all.2 (c.close.ensures all.0 all.1)

pub returns-clause-finds : goal.returns-clause-finds
returns-clause-finds g c =
    let all = c.gathered-seat.ensures.all in
    all_say c.args.self c.args.seats.items c.requires.1 all.0 all.2 (c.close.ensures all.0 all.1) (sym c.args.seats.ok.0 ∙ c.requires.0)
