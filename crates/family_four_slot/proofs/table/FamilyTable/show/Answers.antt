-- What is shown there is what the seat has.
use Rattle.std.proofs.Common.{◌∷◌, ap, ◌∙◌, sym}
use Rattle.family_four_slot.proofs.table.FamilyTable.show.Goals as goal

pub show-requires-clause-held : goal.show-requires-clause-held
show-requires-clause-held g c =
    let t = c.requires.held in
    (t.0, t.1, t.2 ∙ ap (λ z. (z, t.0) ∷ t.1) (sym c.slot_place.ensures))

pub returns-clause-shown : goal.returns-clause-shown
returns-clause-shown g c item cs e = c.show.ensures.shown item cs (e ∙ ap (λ z. (z, item) ∷ cs) (sym c.slot_place.ensures))
