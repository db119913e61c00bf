-- The search under the other limit tells it.
use Rattle.std.proofs.Common.{subst, sym, Bool}
use Rattle.thinned_search.specs.Limits.{IsLawfulUnder}
use Rattle.thinned_search.proofs.LimitLemmas.{answered_under}
use Rattle.thinned_search.proofs.limit.is_lawful_under.Goals as goal

pub returns-in-Ok : goal.returns-in-Ok
returns-in-Ok c = λ own log thin.
    subst (λ (b : Bool). IsLawfulUnder log c.args.limit b) (sym c.is_lawful.ensures)
    (answered_under c.args.limit log c.in-Ok.found (c.in-Ok.ensures c.args.limit log (c.in_ok-other.ensures own log thin)).0)
