-- The limit between one under which an order is lawful and one under which none is.
use Rattle.std.proofs.Common.{◌≡◌, ◌∙◌, ◌⊎◌, ℕ, ◌+◌, ◌-◌, ◌<◌, ◌≤◌, List, true, false, refl, sym, subst, arith}
use Rattle.history_core.specs.declared.history.Op.{Op}
use Rattle.history_core.specs.declared.thinned.LogAnswer.{LogAnswer}
use Rattle.history_core.specs.declared.thinned.LogAnswer.TheVariants.{Lawful, Unlawful}
use Rattle.history_core.specs.declared.thinned.Thinned.{Thinned}
use Rattle.history_core.specs.declared.reason.Reason.{Reason}
use Rattle.history_core.specs.declared.reason.Reason.TheVariants.{Limit}
use Rattle.history_thinning.specs.Answers.{IsThinnedAnswer}
use Rattle.history_thinning.specs.Thinnings.{IsThinnedLog}
use Rattle.thinned_search.specs.Limits.{IsCounted, IsCountedBy, IsLawfulUnder, IsMost, is_lawful}
use Rattle.history_core.specs.Kept.{limit_of}

pub own_limit : (own : ℕ) (log : List (Op ℕ)) (a : Thinned) → IsThinnedLog own log a → limit_of a ≡ own
own_limit own log a thin = rw thin.term refl

pub answered_under : (limit : ℕ) (log : List (Op ℕ)) (found : LogAnswer) → IsThinnedAnswer limit log found
    → IsLawfulUnder log limit (is_lawful found)
answered_under limit log (Lawful writes) answered = (answered.0, answered.1.lawful)
answered_under limit log (Unlawful reason) answered = answered.none

-- a limit under which an order is lawful, if it isn't 0, and one under which none is
pub record IsBetween (log : List (Op ℕ)) (low high : ℕ) : Type 0 where
  pub reached : (low ≡ 0) ⊎ IsLawfulUnder log low true
  pub beyond : IsLawfulUnder log high false

pub is_most : (log : List (Op ℕ)) (low high : ℕ) → low < high → high - low ≤ 1 → IsBetween log low high → IsMost log low
is_most log low high less next between =
    let are : high ≡ low + 1 = omega (arith, less, next) in
    record { some = between.reached; no_more = subst (λ (n : ℕ). IsLawfulUnder log n false) are between.beyond }

-- what holds of the limit that was asked for holds of the log's own
own_count : (thinned : Thinned) (asked most : ℕ) → asked ≡ limit_of thinned
    → ((own : ℕ) (log : List (Op ℕ)) → IsThinnedLog own log thinned → IsLawfulUnder log asked false → 0 < asked → IsMost log most)
    → (limit : ℕ) (log : List (Op ℕ)) → IsThinnedLog limit log thinned → IsLawfulUnder log limit false → 0 < limit → IsMost log most
own_count thinned asked most is told limit log thin none limited =
    let own : asked ≡ limit = is ∙ own_limit limit log thinned thin in
    told limit log thin (subst (λ (n : ℕ). IsLawfulUnder log n false) (sym own) none) (subst (λ (n : ℕ). 0 < n) (sym own) limited)

pub counted_limit : (thinned : Thinned) (reason : Reason) (refused asked most : ℕ) → reason ≡ Limit refused → asked ≡ limit_of thinned
    → ((own : ℕ) (log : List (Op ℕ)) → IsThinnedLog own log thinned → IsLawfulUnder log asked false → 0 < asked → IsMost log most)
    → (limit : ℕ) (log : List (Op ℕ)) → IsThinnedLog limit log thinned → IsLawfulUnder log limit false → IsCountedBy limit log reason most
counted_limit thinned reason refused asked most by is told limit log thin none =
    let P : Reason → Type 0 = λ r. IsCountedBy limit log r most in
    subst P (sym by) (own_count thinned asked most is told limit log thin none)

pub counted_unlawful : (thinned : Thinned) (found : LogAnswer) (reason : Reason) (most : ℕ) → found ≡ Unlawful reason
    → ((limit : ℕ) (log : List (Op ℕ)) → IsThinnedLog limit log thinned → IsLawfulUnder log limit false → IsCountedBy limit log reason most)
    → (limit : ℕ) (log : List (Op ℕ)) → IsThinnedLog limit log thinned → IsThinnedAnswer limit log found → IsCounted limit log found most
counted_unlawful thinned found reason most is told limit log thin =
    let P : LogAnswer → Type 0 = λ f. IsThinnedAnswer limit log f → IsCounted limit log f most in
    let here : P (Unlawful reason) = λ answered. told limit log thin answered.none in
    subst P (sym is) here
