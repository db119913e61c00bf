-- How many writes can stand before the first refused write of a log (this project's own, over the
-- verdict on an order under a limit).
use Rattle.std.specs.Prelude.{◌≡◌, ◌⊎◌, ◌<◌, ◌+◌, ℕ, Bool, true, false, List}
use Rattle.history_core.specs.declared.history.Op.{Op}
use Rattle.history_core.specs.declared.history.Verdict.TheVariants.{Lawful as LawfulOrder}
use Rattle.history_core.specs.Orders.{IsVerdict}
use Rattle.history_core.specs.declared.reason.Reason.{Reason}
use Rattle.history_core.specs.declared.reason.Reason.TheVariants.{Unwritten, Early, Stale, Crossed, Limit}
use Rattle.history_core.specs.declared.thinned.LogAnswer.{LogAnswer}
use Rattle.history_core.specs.declared.thinned.LogAnswer.TheVariants.{Lawful, Unlawful}
use Rattle.history_thinning.specs.Thinnings.{Equal, one_term}

-- whether an order of the log is lawful under this limit
abbrev pub IsLawfulUnder : List (Op ℕ) → ℕ → Bool → Type 0
IsLawfulUnder log limit true = (order : List ℕ) × IsVerdict Equal 0 (one_term limit) log order LawfulOrder
IsLawfulUnder log limit false = (order : List ℕ) → ¬ IsVerdict Equal 0 (one_term limit) log order LawfulOrder

abbrev pub is_lawful : LogAnswer → Bool
is_lawful (Lawful writes) = true
is_lawful (Unlawful reason) = false

-- the greatest limit under which an order is lawful: so many writes can stand before each refused write, and no more
pub record IsMost (log : List (Op ℕ)) (most : ℕ) : Type 0 where
  pub some : (most ≡ 0) ⊎ IsLawfulUnder log most true
  pub no_more : IsLawfulUnder log (most + 1) false

-- the number that is told besides a reason; the limit of a log is 1 at least
abbrev pub IsCountedBy : ℕ → List (Op ℕ) → Reason → ℕ → Type 0
IsCountedBy limit log (Limit refused) most = 0 < limit → IsMost log most
IsCountedBy limit log (Unwritten read) most = Unit {0}
IsCountedBy limit log (Early read write) most = Unit {0}
IsCountedBy limit log (Stale before read) most = Unit {0}
IsCountedBy limit log (Crossed a b c d) most = Unit {0}

abbrev pub IsCounted : ℕ → List (Op ℕ) → LogAnswer → ℕ → Type 0
IsCounted limit log (Lawful writes) most = Unit {0}
IsCounted limit log (Unlawful reason) most = IsCountedBy limit log reason most
