-- What the checker and the search promise, in one place (atomic orders are L. Lamport's, On Interprocess Communication,
-- Parts I and II, Distributed Computing 1, 1986; lawful refusal and the reasons are this project's own).
use Rattle.std.specs.Prelude.{◌≡◌, ℕ, ◌≤◌, List, Result, Ok, MatchResult}
use Rattle.history_core.specs.declared.history.Op.{Op}
use Rattle.history_core.specs.declared.history.Term.{Term}
use Rattle.history_core.specs.declared.history.Verdict.{Verdict}
use Rattle.history_core.specs.declared.history.Verdict.TheVariants.{Lawful}
use Rattle.history_core.specs.Orders.{IsAtomicOrder, IsVerdict, RefusesLawfully}
use Rattle.history_core.specs.declared.reason.Reason.{Reason}
use Rattle.history_core.specs.declared.reason.Search.{Search}
use Rattle.history_core.specs.declared.reason.Search.TheVariants.{Order, Unlawful}
use Rattle.history_core.specs.declared.reason.SearchError.{SearchError}
use Rattle.history_core.specs.Reasons.{IsReason, rule_of}
use Rattle.history_core.specs.Searches.{IsAnswered, IsFault}

module _ {R : Type 0} (Same : R → R → Type 0) (opening : R) (terms : List Term) (ops : List (Op R)) where
  -- an order is atomic and refuses lawfully
  abbrev pub IsLawful : List ℕ → Type 0
  IsLawful order = IsAtomicOrder Same opening ops order × RefusesLawfully terms ops order

  -- *The theorem of the checker*, of a history, an order of it, the verdict on that, and what the search says
  pub record CheckerTheorem (order : List ℕ) (verdict : Verdict) (search : Result Search SearchError) : Type 0 where
    -- the verdict is the first rule that the order breaks, and it is lawful exactly if the order is
    pub exact : IsVerdict Same opening terms ops order verdict
    pub accepts : verdict ≡ Lawful → IsLawful order
    pub refuses : IsLawful order → verdict ≡ Lawful
    -- an order that was found is lawful
    pub finds : (found : List ℕ) → search ≡ Ok (Order found) → IsLawful found
    -- with a reason no order is, the reason is one by its definition, and no reason is of an earlier rule
    pub misses_none : (reason : Reason) (other : List ℕ) → search ≡ Ok (Unlawful reason) → ¬ IsLawful other
    pub reasons : (reason : Reason) → search ≡ Ok (Unlawful reason) →
        (limit : ℕ) × IsReason Same opening limit ops reason
        × ((other : Reason) → IsReason Same opening limit ops other → rule_of reason ≤ rule_of other)
    -- a history of one term in which no record is written twice and none is the opening has one of these answers; of
    -- any other, and where memory is refused, this stands in the way
    pub answers : MatchResult search (IsAnswered Same opening terms ops) (IsFault Same opening terms ops)
