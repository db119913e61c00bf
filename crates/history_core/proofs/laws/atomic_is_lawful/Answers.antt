-- Equal values are the same record to `==`, so an order that is atomic by equality breaks no rule.
use Rattle.std.proofs.Common.{◌≡◌, ℕ, Bool, List, take, Option, None, Some, subst, refl}
use Rattle.std.specs.Prelude.{IsTrue, IsSomeAnd}
use Rattle.history_core.specs.declared.history.Op.{Op}
use Rattle.history_core.specs.declared.history.Kind.{Kind}
use Rattle.history_core.specs.declared.history.Kind.TheVariants.{Write, Read, Refused}
use Rattle.history_core.specs.declared.history.Verdict.{Verdict}
use Rattle.history_core.specs.declared.history.Verdict.TheVariants.{Lawful, Listing, Precedence, Reading, Limit}
use Rattle.history_core.specs.declared.history.Term.{Term}
use Rattle.history_core.specs.Orders.{IsListing, IsVerdict, KeepsPrecedence, latest, ReadsLatest, ReadsRight, RefusesLawfully}
use Rattle.history_core.proofs.laws.atomic_is_lawful.Goals as goal

equal_item : {R : Type 0} (eq : R → R → Bool) → ((x : R) → IsTrue (eq x x)) → (item before : Option R) →
    IsSomeAnd item (λ x. IsSomeAnd before (λ y. x ≡ y)) → IsSomeAnd item (λ x. IsSomeAnd before (λ y. IsTrue (eq x y)))
equal_item eq same None before h = h
equal_item eq same (Some x) None h = h
equal_item eq same (Some x) (Some y) h = subst (λ z. IsTrue (eq x z)) h (same x)

equal_right : {R : Type 0} (eq : R → R → Bool) → ((x : R) → IsTrue (eq x x)) → (kind : Kind) (item before : Option R) →
    ReadsRight (λ x y. x ≡ y) kind item before → ReadsRight (λ x y. IsTrue (eq x y)) kind item before
equal_right eq same Write item before h = h
equal_right eq same Read item before h = equal_item eq same item before h
equal_right eq same Refused item before h = equal_item eq same item before h

lawful_alone : {R : Type 0} (Same : R → R → Type 0) (opening : R) (terms : List Term) (ops : List (Op R)) (order : List ℕ)
    (verdict : Verdict) → IsListing ops order → KeepsPrecedence ops order → ReadsLatest Same opening ops order →
    RefusesLawfully terms ops order → IsVerdict Same opening terms ops order verdict → verdict ≡ Lawful
lawful_alone Same opening terms ops order Lawful listing precedence reading refusal is = refl
lawful_alone Same opening terms ops order Listing listing precedence reading refusal is = absurd (is listing)
lawful_alone Same opening terms ops order Precedence listing precedence reading refusal is = absurd (is.1 precedence)
lawful_alone Same opening terms ops order Reading listing precedence reading refusal is = absurd (is.2 reading)
lawful_alone Same opening terms ops order Limit listing precedence reading refusal is = absurd (is.1 refusal)

pub returns : goal.returns
returns g c opening terms ops order verdict atomic lawful is =
    lawful_alone (λ x y. IsTrue (g.R.PartialEq.eq x y)) opening terms ops order verdict atomic.listing atomic.precedence
    (λ i o at. equal_right g.R.PartialEq.eq g.met.R.Eq.laws.refl o.kind o.item (latest opening ops (take i order)) (atomic.reading i o at))
    lawful is
