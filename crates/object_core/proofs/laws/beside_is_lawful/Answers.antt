-- Worked out place by place.
use Rattle.object_core.proofs.Instances.{beside}
use Rattle.object_core.proofs.laws.beside_is_lawful.Goals as goal

pub returns : goal.returns
returns c = beside
