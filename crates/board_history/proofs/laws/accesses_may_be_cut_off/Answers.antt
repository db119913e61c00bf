-- By which of its steps there are.
use Rattle.board_history.proofs.cut_off.Parts.{part_before, part_begun, part_made}
use Rattle.board_history.proofs.laws.accesses_may_be_cut_off.Goals as goal

pub returns-clause-made : goal.returns-clause-made
returns-clause-made c width access steps begins ends begins' ends' is = part_made width steps access begins ends begins' ends' is

pub returns-clause-begun : goal.returns-clause-begun
returns-clause-begun c width access t steps begins ends begins' ends' at l b e =
    part_begun width steps access begins ends begins' ends' t at l b e

pub returns-clause-before : goal.returns-clause-before
returns-clause-before c width access steps begins ends begins' ends' l b e = part_before width steps access begins ends begins' ends' l b e
