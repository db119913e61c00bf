-- Worked out place by place.
use Rattle.object_core.proofs.Instances.{stale}
use Rattle.object_core.proofs.laws.stale_is_unlawful.Goals as goal

pub returns : goal.returns
returns c lawful = stale lawful.0 lawful.1
