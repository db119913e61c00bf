-- All are computed place by place.
use Rattle.board_history.proofs.cut_off.Instances.{cell_worked, column_worked, no_cut_read, no_kept, no_stale, not_without_write}
use Rattle.board_history.proofs.cut_off.Instances.{row_worked}
use Rattle.board_history.proofs.laws.runs_cut_off.Goals as goal

pub returns-clause-column : goal.returns-clause-column
returns-clause-column c = column_worked

pub returns-clause-row : goal.returns-clause-row
returns-clause-row c = row_worked

pub returns-clause-cell : goal.returns-clause-cell
returns-clause-cell c = cell_worked

pub returns-clause-read : goal.returns-clause-read
returns-clause-read c = no_cut_read

pub returns-clause-write : goal.returns-clause-write
returns-clause-write c = not_without_write

pub returns-clause-stale : goal.returns-clause-stale
returns-clause-stale c = no_stale

pub returns-clause-kept : goal.returns-clause-kept
returns-clause-kept c = no_kept
