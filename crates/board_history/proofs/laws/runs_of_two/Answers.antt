-- All are computed place by place.
use Rattle.board_history.proofs.Instances.{is_fresh, is_stale}
use Rattle.board_history.proofs.Silent.{is_early, is_found, is_silent, is_untold}
use Rattle.board_history.proofs.laws.runs_of_two.Goals as goal

pub returns-clause-fresh : goal.returns-clause-fresh
returns-clause-fresh c = is_fresh

pub returns-clause-stale : goal.returns-clause-stale
returns-clause-stale c = is_stale

pub returns-clause-silent : goal.returns-clause-silent
returns-clause-silent c = is_silent

pub returns-clause-untold : goal.returns-clause-untold
returns-clause-untold c = is_untold

pub returns-clause-found : goal.returns-clause-found
returns-clause-found c = is_found

pub returns-clause-early : goal.returns-clause-early
returns-clause-early c = is_early
