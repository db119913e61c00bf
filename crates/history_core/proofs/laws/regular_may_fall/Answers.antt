-- The instance is computed place by place.
use Rattle.history_core.proofs.Falling.{falls}
use Rattle.history_core.proofs.laws.regular_may_fall.Goals as goal

pub returns : goal.returns
returns c = falls
