-- By way of the register that refuses writes.
use Rattle.objects_agree.proofs.Exchanges.{whole}
use Rattle.objects_agree.proofs.laws.exchanges_agree.Goals as goal

pub returns : goal.returns
returns c = whole
