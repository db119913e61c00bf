-- Any verdict but `Lawful` says that a part of what is lawful doesn't hold; the other parts are those of an answer.
use Rattle.std.proofs.Common.{◌≡◌, ℕ, List, Result, Ok, MatchResult, refl, subst}
use Rattle.history_core.specs.declared.history.Op.{Op}
use Rattle.history_core.specs.declared.history.Term.{Term}
use Rattle.history_core.specs.declared.history.Verdict.{Verdict}
use Rattle.history_core.specs.declared.history.Verdict.TheVariants.{Lawful, Listing, Precedence, Reading, Limit}
use Rattle.history_core.specs.Orders.{IsVerdict}
use Rattle.history_core.specs.declared.reason.Search.{Search}
use Rattle.history_core.specs.declared.reason.Search.TheVariants.{Order, Unlawful}
use Rattle.history_core.specs.declared.reason.SearchError.{SearchError}
use Rattle.history_core.specs.Searches.{IsAnswered, IsFault}
use Rattle.theorems.specs.Checkers.{CheckerTheorem, IsLawful}

module _ {R : Type 0} (Same : R → R → Type 0) (opening : R) (terms : List Term) (ops : List (Op R)) where
  is_lawful : (order : List ℕ) (verdict : Verdict) → IsVerdict Same opening terms ops order verdict →
      IsLawful Same opening terms ops order →
      verdict ≡ Lawful
  is_lawful order Lawful h l = refl
  is_lawful order Listing h l = absurd (h l.0.listing)
  is_lawful order Precedence h l = absurd (h.1 l.0.precedence)
  is_lawful order Reading h l = absurd (h.2 l.0.reading)
  is_lawful order Limit h l = absurd (h.1 l.1)

  answered : (search : Result Search SearchError) (s : Search) → search ≡ Ok s →
      MatchResult search (IsAnswered Same opening terms ops) (IsFault Same opening terms ops) → IsAnswered Same opening terms ops s
  answered search s e h = subst (λ z. MatchResult z (IsAnswered Same opening terms ops) (IsFault Same opening terms ops)) e h

  pub checker : (order : List ℕ) (verdict : Verdict) (search : Result Search SearchError) → IsVerdict Same opening terms ops order verdict →
      MatchResult search (IsAnswered Same opening terms ops) (IsFault Same opening terms ops) →
      CheckerTheorem Same opening terms ops order verdict search
  checker order verdict search right h = record {
    exact = right;
    accepts = λ e. subst (λ z. IsVerdict Same opening terms ops order z) e right;
    refuses = is_lawful order verdict right;
    finds = λ found e. (answered search (Order found) e h).answer;
    misses_none = λ reason other e. (answered search (Unlawful reason) e h).answer.none other;
    reasons = λ reason e. let a = answered search (Unlawful reason) e h in (a.limit, a.answer.is, a.answer.first);
    answers = h;
  }
