-- Worked out place by place.
use Rattle.object_core.proofs.Instances.{unfinished}
use Rattle.object_core.proofs.laws.unfinished_is_lawful.Goals as goal

pub returns : goal.returns
returns c = unfinished
