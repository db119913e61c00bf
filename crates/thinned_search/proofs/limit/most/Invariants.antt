-- An order is lawful under the lower limit, if that isn't 0, and none is under the higher one.
use Rattle.std.proofs.Common.{◌≤◌, ◌<◌, ◌-◌, ℕ, List, false}
use Rattle.history_core.specs.declared.history.Op.{Op}
use Rattle.history_thinning.specs.Thinnings.{IsThinnedLog}
use Rattle.thinned_search.specs.Limits.{IsLawfulUnder}
use Rattle.thinned_search.proofs.LimitLemmas.{IsBetween}
use Rattle.thinned_search.proofs.limit.most.Given as goal

abbrev pub invariant-between : goal.invariant-between
invariant-between l = record {
  known : (own : ℕ) (log : List (Op ℕ)) → IsThinnedLog own log l.thinned → IsLawfulUnder log l.limit false → IsBetween log l.low l.high;
  ordered : l.low ≤ l.high;
  apart : 0 < l.limit → l.low < l.high;
}

abbrev pub decreases-between : goal.decreases-between
decreases-between l = l.high - l.low
