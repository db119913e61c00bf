-- The limit that was asked for is the log's own.
use Rattle.std.proofs.lemmas.Result.{IfOk-weaker}
use Rattle.thinned_search.proofs.LimitLemmas.{counted_limit}
use Rattle.thinned_search.proofs.limit.counted_by.Goals as goal

pub returns-in-Limit : goal.returns-in-Limit
returns-in-Limit c = IfOk-weaker c.most.result _ _ (λ most told. counted_limit c.args.thinned.now c.args.reason _ c.limit.result most
    c.in-Limit.is c.limit.ensures told) c.most.ensures
