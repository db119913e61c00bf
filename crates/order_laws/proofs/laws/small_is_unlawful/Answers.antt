-- By the lines of its operations, which rise.
use Rattle.small_log.specs.Small.{small_lines}
use Rattle.order_laws.proofs.PrintedLemmas.{none_lawful, unlawful_told}
use Rattle.order_laws.proofs.SmallLemmas.{own_lines}
use Rattle.order_laws.proofs.laws.small_is_unlawful.Goals as goal

pub returns-clause-rule : goal.returns-clause-rule
returns-clause-rule c limit log thinned reason is unlawful kept =
    unlawful_told limit log thinned is reason (small_lines thinned reason) (own_lines limit log thinned is reason) kept unlawful

pub returns-clause-none : goal.returns-clause-none
returns-clause-none c limit log thinned reason is r kept =
    none_lawful limit log thinned is reason (small_lines thinned reason) (own_lines limit log thinned is reason) kept r
