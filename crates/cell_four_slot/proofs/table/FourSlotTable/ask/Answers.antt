-- The load of `latest` begins a read. Where `reading` has the pair it is R2 too, and the store that is left out is no access.
use Rattle.std.proofs.Common.{◌≤◌, ℕ, ap, arith}
use Rattle.cell_four_slot.proofs.Spread.{asks_spread}
use Rattle.cell_four_slot.proofs.table.FourSlotTable.ask.Goals as goal

pub load-requires : goal.load-requires
load-requires g c =
    let t = c.requires.idle in
    let count : ℕ = 0 in (
      c.requires.own,
      (let s = c.args.self.now.sized in
          omega arith),
      asks_spread g.T.Lawful.fits g.T.Lawful.rises _ count (let few : count ≤ 1 = omega arith in few) _ _ _ t.0 (ap (λ m. m.0) t.1)
          (ap (λ m. m.1) t.1) t.2,
    )
