-- Four slots with the same record and zeros are the opening state, in which the rule holds.
use Rattle.std.proofs.Common.{rules, ◌≡◌, [], ◌∷◌, List, sym, subst, refl, replicate}
use Rattle.atomic_table.specs.Table.{opening}
use Rattle.cell_four_slot.specs.Spread.{SpreadRule}
use Rattle.cell_four_slot.specs.Steps.{first_sight}
use Rattle.cell_four_slot.proofs.Spread.{starts_spread}
use Rattle.cell_four_slot.proofs.table.FourSlotTable.new.Goals as goal

pub new-requires : goal.new-requires
new-requires g c =
    let e : c.push-4.new.self.items ≡ c.args.first.now ∷ c.args.first.now ∷ c.args.first.now ∷ c.args.first.now ∷ [] = search rules in
    subst (λ (xs : List g.row.T.Denot). SpreadRule g.T.Lawful.fits g.T.Lawful.rises c.args.first.now (opening (replicate 32 0) xs
    (first_sight c.args.first.now))) (sym e)
    (starts_spread g.T.Lawful.fits g.T.Lawful.rises c.args.first.now (replicate 32 0) refl refl c.requires)
