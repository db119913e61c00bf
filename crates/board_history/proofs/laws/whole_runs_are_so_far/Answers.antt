-- Each of its calls has ended.
use Rattle.board_history.proofs.Whole.{history_whole, whole_history, whole_run}
use Rattle.board_history.proofs.laws.whole_runs_are_so_far.Goals as goal

pub returns-clause-run : goal.returns-clause-run
returns-clause-run g c width n limit opening steps did run = whole_run width n limit opening steps did run

pub returns-clause-history : goal.returns-clause-history
returns-clause-history g c width n limit opening steps did ops stamps run = (
  λ h. whole_history width n limit opening steps did run ops stamps h,
  λ h. history_whole width n limit opening steps did run ops stamps h,
)
