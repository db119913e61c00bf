-- The number of a read that meets no write is fixed.
use Rattle.history_core.proofs.Alone.{alone_is_last}
use Rattle.history_core.proofs.laws.regular_is_safe.Goals as goal

pub returns : goal.returns
returns g c opening written writes answers numbers reads m last answer is alone at =
    alone_is_last opening written writes answers numbers reads m last answer is alone at
