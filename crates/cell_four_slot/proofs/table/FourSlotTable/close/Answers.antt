-- The last state has the view with both lists, and the rule says that they are settled, what their times are, and what the reader knows.
use Rattle.cell_four_slot.proofs.Keeps.{told_at_end, timed_at_end, known_at_end}
use Rattle.cell_four_slot.proofs.Spread.{spread_final}
use Rattle.cell_four_slot.proofs.table.FourSlotTable.close.Goals as goal

pub returns-clause-settled : goal.returns-clause-settled
returns-clause-settled g c = λ p q is. told_at_end g.T.Lawful.fits g.T.Lawful.rises _ _ _ p q _ _ is
    (spread_final g.T.Lawful.fits g.T.Lawful.rises _ _ _ _ _ c.close_with.ensures.values.2)

pub returns-clause-timed : goal.returns-clause-timed
returns-clause-timed g c = λ p q is. timed_at_end g.T.Lawful.fits g.T.Lawful.rises _ _ _ p q _ _ is
    (spread_final g.T.Lawful.fits g.T.Lawful.rises _ _ _ _ _ c.close_with.ensures.values.2)

pub returns-clause-known : goal.returns-clause-known
returns-clause-known g c = λ p q is. known_at_end g.T.Lawful.fits g.T.Lawful.rises _ _ _ p q _ _ is
    (spread_final g.T.Lawful.fits g.T.Lawful.rises _ _ _ _ _ c.close_with.ensures.values.2)
