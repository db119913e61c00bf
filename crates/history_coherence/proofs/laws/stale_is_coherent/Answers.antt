-- The instance is computed place by place.
use Rattle.history_coherence.proofs.Worked.{stale_coherent, stale_stale}
use Rattle.history_coherence.proofs.laws.stale_is_coherent.Goals as goal

pub returns-clause-coherent : goal.returns-clause-coherent
returns-clause-coherent c = stale_coherent

pub returns-clause-stale : goal.returns-clause-stale
returns-clause-stale c = stale_stale
