-- Looked for at once, so that another value is refused at once.
use Rattle.std.proofs.Common.{rules}
use Rattle.read_schedule.specs.Cell.{cell_in}
use Rattle.read_schedule.proofs.cell.cell_in.Goals as goal

pub returns-in_err-required : goal.returns-in_err-required
unfolding cell_in
returns-in_err-required c = search rules

pub returns-in_err-opening : goal.returns-in_err-opening
unfolding cell_in
returns-in_err-opening c = search rules

pub returns-in_err-noise : goal.returns-in_err-noise
unfolding cell_in
returns-in_err-noise c = search rules

pub returns-in_err-writes : goal.returns-in_err-writes
unfolding cell_in
returns-in_err-writes c = search rules

pub returns-in_err-reads : goal.returns-in_err-reads
unfolding cell_in
returns-in_err-reads c = search rules

pub returns-in_err-steps : goal.returns-in_err-steps
unfolding cell_in
returns-in_err-steps c = search rules

pub returns-in_err-allowed : goal.returns-in_err-allowed
unfolding cell_in
returns-in_err-allowed c = search rules

pub returns : goal.returns
unfolding cell_in
returns c = search rules
