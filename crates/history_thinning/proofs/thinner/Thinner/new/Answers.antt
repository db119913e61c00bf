-- Nothing is kept of no operation.
use Rattle.history_thinning.proofs.Steps.{thinned_none}
use Rattle.history_thinning.proofs.thinner.Thinner.new.Goals as goal

pub returns : goal.returns
returns c = thinned_none c.no_rows.result.ops.items c.no_rows.result.places.items c.new.result.items c.no_rows.ensures.ops
    c.no_rows.ensures.places c.new.ensures.items
