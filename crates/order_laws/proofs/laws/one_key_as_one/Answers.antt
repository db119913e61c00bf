-- No line is refused for its key.
use Rattle.order_laws.proofs.OneKeyLemmas.{one_key_as_one}
use Rattle.order_laws.proofs.laws.one_key_as_one.Goals as goal

pub returns : goal.returns
returns c = one_key_as_one
