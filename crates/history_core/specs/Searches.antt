-- What a search for a lawful order answers. Which histories it takes, and the reasons, are this project's own; the
-- verdict is that of the check.
use Rattle.std.specs.Prelude.{◌≡◌, ℕ, ◌<◌, ◌≤◌, true, List, [], ◌∷◌, slice_get, Some, IfSome, IsSomeAnd}
use Rattle.history_core.specs.declared.history.Op.{Op}
use Rattle.history_core.specs.declared.history.Term.{Term}
use Rattle.history_core.specs.declared.history.Verdict.TheVariants.{Lawful}
use Rattle.history_core.specs.Orders.{is_write, IsVerdict}
use Rattle.history_core.specs.declared.reason.Search.{Search}
use Rattle.history_core.specs.declared.reason.Search.TheVariants.{Order, Unlawful}
use Rattle.history_core.specs.declared.reason.SearchError.{SearchError}
use Rattle.history_core.specs.declared.reason.SearchError.TheVariants.{NoMemory, Terms, Backwards}
use Rattle.history_core.specs.declared.reason.SearchError.TheVariants.{WritesOpening, WritesTwice}
use Rattle.history_core.specs.declared.reason.Reason.{Reason}
use Rattle.history_core.specs.Reasons.{IsOfOpening, IsReason, OfOneRecord, rule_of}

-- the history has one term, which begins with its first operation
abbrev pub IsOneTerm : ℕ → List Term → Type 0
IsOneTerm limit terms = terms ≡ record { first = 0; limit = limit } ∷ []

module _ {R : Type 0} where
  -- no operation at a place below n ends before it begins
  abbrev pub AreForwards : List (Op R) → ℕ → Type 0
  AreForwards ops n = (p : ℕ) (o : Op R) → p < n → slice_get ops p ≡ Some o → IfSome o.ends (λ end. o.starts ≤ end)

  -- the operation at this place ends before it begins
  abbrev pub IsBackwards : List (Op R) → ℕ → Type 0
  IsBackwards ops place = IsSomeAnd (slice_get ops place) (λ o. IsSomeAnd o.ends (λ end. end < o.starts))

  -- the operation at this place is a write of the opening
  abbrev pub IsOpeningWrite : (R → R → Type 0) → R → List (Op R) → ℕ → Type 0
  IsOpeningWrite Same opening ops place =
      IsSomeAnd (slice_get ops place) (λ o. (is_write o.kind ≡ true) × IsOfOpening Same opening o)

  -- the operations at these places are writes of one record, and the first has the lesser place
  pub record IsWrittenTwice (Same : R → R → Type 0) (ops : List (Op R)) (first second : ℕ) : Type 0 where
    pub earlier : Op R
    pub later : Op R
    pub first_at : slice_get ops first ≡ Some earlier
    pub second_at : slice_get ops second ≡ Some later
    pub first_writes : is_write earlier.kind ≡ true
    pub second_writes : is_write later.kind ≡ true
    pub one : OfOneRecord Same later earlier
    pub less : first < second

  -- of the writes at places below n none is of the opening, and no two are of one record
  pub record WritesOnce (Same : R → R → Type 0) (opening : R) (ops : List (Op R)) (n : ℕ) : Type 0 where
    pub fresh : (p : ℕ) → p < n → ¬ IsOpeningWrite Same opening ops p
    pub once : (p q : ℕ) → q < n → ¬ IsWrittenTwice Same ops p q

  -- no order is lawful, and this is a reason, of the first rule that any reason has
  pub record IsUnlawful (Same : R → R → Type 0) (opening : R) (limit : ℕ) (terms : List Term) (ops : List (Op R))
      (reason : Reason) : Type 0 where
    pub none : (order : List ℕ) → ¬ IsVerdict Same opening terms ops order Lawful
    pub is : IsReason Same opening limit ops reason
    pub first : (other : Reason) → IsReason Same opening limit ops other → rule_of reason ≤ rule_of other

  -- the answer of a search
  abbrev pub IsSearch : (R → R → Type 0) → R → ℕ → List Term → List (Op R) → Search → Type 0
  IsSearch Same opening limit terms ops (Order order) = IsVerdict Same opening terms ops order Lawful
  IsSearch Same opening limit terms ops (Unlawful reason) = IsUnlawful Same opening limit terms ops reason

  -- a history that can be searched, and the answer
  pub record IsAnswered (Same : R → R → Type 0) (opening : R) (terms : List Term) (ops : List (Op R))
      (search : Search) : Type 0 where
    pub limit : ℕ
    pub one_term : IsOneTerm limit terms
    pub forwards : (n : ℕ) → AreForwards ops n
    pub once : (n : ℕ) → WritesOnce Same opening ops n
    pub answer : IsSearch Same opening limit terms ops search

  -- what stands in the way of a search: the first of the conditions that doesn't hold, at the least place
  abbrev pub IsFault : (R → R → Type 0) → R → List Term → List (Op R) → SearchError → Type 0
  IsFault Same opening terms ops NoMemory = Unit {0}
  IsFault Same opening terms ops Terms = (limit : ℕ) → ¬ IsOneTerm limit terms
  IsFault Same opening terms ops (Backwards place) = IsBackwards ops place × AreForwards ops place
  IsFault Same opening terms ops (WritesOpening place) =
      IsOpeningWrite Same opening ops place × WritesOnce Same opening ops place × ((n : ℕ) → AreForwards ops n)
  IsFault Same opening terms ops (WritesTwice first second) =
      IsWrittenTwice Same ops first second × WritesOnce Same opening ops second × ((n : ℕ) → AreForwards ops n)

  -- the fault of writes, where operations run forwards
  abbrev pub IsGroupFault : (R → R → Type 0) → R → List (Op R) → SearchError → Type 0
  IsGroupFault Same opening ops NoMemory = Unit {0}
  IsGroupFault Same opening ops Terms = ⊥
  IsGroupFault Same opening ops (Backwards place) = ⊥
  IsGroupFault Same opening ops (WritesOpening place) = IsOpeningWrite Same opening ops place
      × WritesOnce Same opening ops place
  IsGroupFault Same opening ops (WritesTwice first second) = IsWrittenTwice Same ops first second
      × WritesOnce Same opening ops second
