-- What the seats are shown together is of all of them.
use Rattle.std.proofs.Common.{arith, sym, ◌∙◌}
use Rattle.family_triple.proofs.Parting.{all_scheduled, all_atomic, all_say}
use Rattle.family_triple.proofs.family.TripleFamilyFamily.so_far.Goals as goal

pub show-requires-clause-some : goal.show-requires-clause-some
show-requires-clause-some g c =
    let some = c.args.self.now.table.rows.some.0 in
    omega (arith, c.requires.0)

pub show-requires-clause-own : goal.show-requires-clause-own
show-requires-clause-own g c = λ i s e. (c.requires.1 i s e).0.table

pub show-requires-clause-one : goal.show-requires-clause-one
show-requires-clause-one g c = λ i s e. (c.requires.1 i s e).0.one

pub returns-clause-scheduled : goal.returns-clause-scheduled
returns-clause-scheduled g c =
    let h = c.show.ensures.shown in
    all_scheduled c.args.self.now c.args.seats.now.items c.requires.1 h.0 h.2 h.1

pub returns-clause-atomic : goal.returns-clause-atomic
returns-clause-atomic g c =
    let h = c.show.ensures.shown in
    all_atomic c.args.self.now c.args.seats.now.items c.requires.1 h.0 h.2 h.1

pub returns-clause-finds : goal.returns-clause-finds
returns-clause-finds g c =
    let h = c.show.ensures.shown in
    all_say c.args.self.now c.args.seats.now.items c.requires.1 h.0 h.2 h.1 (sym c.args.seats.now.ok.0 ∙ c.requires.0)
