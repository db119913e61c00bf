-- By the accesses of the call that is cut off.
use Rattle.board_history.proofs.cut_off.Calls.{column_begun, row_begun}
use Rattle.board_history.proofs.laws.calls_may_be_cut_off.Goals as goal

pub returns-clause-column : goal.returns-clause-column
returns-clause-column g c width n limit i first old new two some h m = column_begun width n limit first i old new two some h m

pub returns-clause-row : goal.returns-clause-row
returns-clause-row g c width n limit i first old new call two some h m = row_begun width n limit first i old new call two some h m
