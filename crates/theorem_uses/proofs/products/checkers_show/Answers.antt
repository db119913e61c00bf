-- Each is a part of it.
use Rattle.std.proofs.Common.{IsTrue}
use Rattle.theorem_uses.proofs.Theorems.{verdicts, misses_none}
use Rattle.theorem_uses.proofs.products.checkers_show.Goals as goal

pub returns-clause-verdict : goal.returns-clause-verdict
returns-clause-verdict g c = verdicts (λ x y. IsTrue (g.R.PartialEq.eq x y))

pub returns-clause-search : goal.returns-clause-search
returns-clause-search g c = misses_none (λ x y. IsTrue (g.R.PartialEq.eq x y))
