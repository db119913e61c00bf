-- Order by order.
use Rattle.objects_agree.proofs.laws.definitions_agree.Goals as goal
use Rattle.objects_agree.proofs.Whole.{whole}

pub returns : goal.returns
returns c = whole
