-- A pure exchange leaves the register as it is.
use Rattle.std.proofs.Common.{ap}
use Rattle.watch_lines.specs.Lined.{lined}
use Rattle.watch_lines.proofs.LinedLemmas.{made}
use Rattle.watch_lines.proofs.lined.LinedRegisterObject.is_pure.Goals as goal

pub returns : goal.returns
returns c = λ pure s t makes. ap lined (c.is_pure.ensures.pure pure s.register t.register (made _ t makes))
