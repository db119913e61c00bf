-- The two answers have their clauses.
use Rattle.std.proofs.Common.{IsTrue}
use Rattle.theorems.proofs.Verdicts.{checker}
use Rattle.theorems.proofs.checkers.checker_theorem.Goals as goal

pub returns : goal.returns
returns g c =
    checker (λ x y. IsTrue (g.R.PartialEq.eq x y)) c.args.h.now.opening c.args.h.now.terms c.args.h.now.ops c.args.order.now
    c.check_order-verdict.result c.find_order-found.result c.check_order-verdict.ensures c.find_order-found.ensures
