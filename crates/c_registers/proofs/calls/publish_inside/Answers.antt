-- The side's own call tells the rest.
use Rattle.std.proofs.Common.{refl, subst}
use Rattle.c_registers.specs.TripleCalls.{HasPublished}
use Rattle.c_registers.proofs.calls.publish_inside.Goals as goal

pub returns-clause-written : goal.returns-clause-written
returns-clause-written g c = λ shown. (
  c.publish.new.self,
  refl,
  subst (λ p. HasPublished p c.publish.new.self) c.inside.ensures.value (c.publish.ensures.written shown),
)
