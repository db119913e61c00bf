-- No order is lawful under the log's own limit.
use Rattle.std.proofs.lemmas.Result.{IfOk-weaker}
use Rattle.thinned_search.proofs.LimitLemmas.{counted_unlawful}
use Rattle.thinned_search.proofs.limit.counted.Goals as goal

pub returns-in-Unlawful : goal.returns-in-Unlawful
returns-in-Unlawful c =
    IfOk-weaker c.counted_by.result _ _ (λ most told. counted_unlawful c.args.thinned.now c.args.found.now _ most c.in-Unlawful.is told)
    c.counted_by.ensures
