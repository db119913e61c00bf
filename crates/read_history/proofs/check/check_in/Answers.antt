-- Looked for at once, so that another value is refused at once.
use Rattle.std.proofs.Common.{rules}
use Rattle.read_history.specs.Check.{check_in}
use Rattle.read_history.proofs.check.check_in.Goals as goal

pub returns-in_err-required : goal.returns-in_err-required
unfolding check_in
returns-in_err-required c = search rules

pub returns-in_err-opening : goal.returns-in_err-opening
unfolding check_in
returns-in_err-opening c = search rules

pub returns-in_err-limit : goal.returns-in_err-limit
unfolding check_in
returns-in_err-limit c = search rules

pub returns-in_err-ops : goal.returns-in_err-ops
unfolding check_in
returns-in_err-ops c = search rules

pub returns-in_err-order : goal.returns-in_err-order
unfolding check_in
returns-in_err-order c = search rules

pub returns-in_err-allowed : goal.returns-in_err-allowed
unfolding check_in
returns-in_err-allowed c = search rules

pub returns-in_err-terms : goal.returns-in_err-terms
unfolding check_in
returns-in_err-terms c = search rules

pub returns : goal.returns
unfolding check_in
returns c = search rules
