-- Step by step.
use Rattle.object_registers.proofs.Limits.{forbids, none_due}
use Rattle.object_registers.proofs.laws.limit_only_forbids.Goals as goal

pub returns-clause-forbids : goal.returns-clause-forbids
returns-clause-forbids c = forbids

pub returns-clause-none_due : goal.returns-clause-none_due
returns-clause-none_due c = none_due
