-- The store of the pair gives the slot of the read before back. It is one access.
use Rattle.std.proofs.Common.{◌≤◌, ℕ, ap, arith}
use Rattle.cell_four_slot.proofs.Spread.{says_spread}
use Rattle.cell_four_slot.proofs.table.FourSlotTable.say.Goals as goal

pub store-requires : goal.store-requires
store-requires g c =
    let t = c.requires.asked in
    let count : ℕ = 1 in (
      c.requires.own,
      (let s = c.args.self.now.sized in
          omega arith),
      says_spread g.T.Lawful.fits g.T.Lawful.rises _ count (let few : count ≤ 1 = omega arith in few) _ _ _ t.0 _ (ap (λ m. m.0) t.1)
          (ap (λ m. m.1) t.1) t.2 t.3,
    )
