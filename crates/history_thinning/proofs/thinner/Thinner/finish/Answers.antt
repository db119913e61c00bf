-- What was kept is the log thinned.
use Rattle.history_thinning.proofs.Steps.{is_thinned, term_of}
use Rattle.history_thinning.proofs.thinner.Thinner.finish.Goals as goal

pub returns : goal.returns
returns c = λ log known.
    is_thinned c.args.limit log c.needed-ops.result.ops.items c.needed-ops.result.places.items (c.needed-ops.ensures log known) c.new.result
    (term_of c.args.limit c.new.result _ c.new-terms.result.items c.new.ensures c.in_ok-push.ensures.items c.new-terms.ensures.items)
    c.new-2.result c.new-2.ensures c.new-3.result c.new-3.ensures
