-- The write stands before the read, and nothing else changes what is there.
use Rattle.theorem_uses.proofs.Ordered.{stale}
use Rattle.theorem_uses.proofs.orders.stale_reads_are_absurd.Goals as goal

pub returns : goal.returns
returns g c = stale
