-- Both ways.
use Rattle.objects_agree.proofs.laws.orders_agree.Goals as goal
use Rattle.objects_agree.proofs.Whole.{back, there}

pub returns-clause-there : goal.returns-clause-there
returns-clause-there c = there

pub returns-clause-back : goal.returns-clause-back
returns-clause-back c = back
