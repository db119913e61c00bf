-- The consequences of an atomic order, by its parts.
use Rattle.std.proofs.Common.{◌≡◌, ◌≢◌, ℕ, ◌+◌, ◌<◌, ◌≤◌, zero, suc, true, ◌&&◌, List, [], ◌∷◌, length, take, drop, slice_get, Option, None}
use Rattle.std.proofs.Common.{Some}
use Rattle.std.proofs.Common.{IsSomeAnd, nat_le, refl, sym, ◌∙◌, ap, subst, ◌⊎◌, inl, inr, arith}
use Rattle.std.proofs.lemmas.Bool.Decides.{nat_tests}
use Rattle.std.proofs.lemmas.Option.{none-some, same_Some, slice_get_within}
use Rattle.std.specs.Option.{option_and_then}
use Rattle.history_core.specs.declared.history.Op.{Op}
use Rattle.history_core.specs.declared.history.Kind.{Kind}
use Rattle.history_core.specs.declared.history.Kind.TheVariants.{Write, Read, Refused}
use Rattle.history_core.specs.Orders.{IsAtomicOrder, in_term, latest, listed_at, MayStand, Precedes, ReadsRight, RefusesLawfully, times_of}
use Rattle.theorem_uses.specs.Orders.{HasWhatIsThere, IsOnlyWrite, KeepsIntervals, ListsEachOnce, ListsNothingElse, StaleIsAbsurd}
use Rattle.theorem_uses.specs.Orders.{WaitsForTheLimit}
use Rattle.theorem_uses.proofs.Listed.{alone, listed}
use Rattle.theorem_uses.proofs.Latest.{counts_none, is_there}
use Rattle.history_core.proofs.Counts.{times_some}

-- an operation without an end that stands somewhere is a write
writes : (kind : Kind) (times : ℕ) → 0 < times → MayStand None kind times → kind ≡ Write
writes Write times l h = refl
writes Read times l h = absurd (omega (arith, l, h))
writes Refused times l h = absurd (omega (arith, l, h))

unfinished : (ends : Option ℕ) (kind : Kind) (times : ℕ) → ends ≡ None → 0 < times → MayStand ends kind times → kind ≡ Write
unfinished ends kind times e l h = writes kind times l (subst (λ z. MayStand z kind times) e h)

precedes : (ends : Option ℕ) (end starts : ℕ) → ends ≡ Some end → end < starts → IsSomeAnd ends (λ e. e < starts)
precedes ends end starts e l = subst (λ z. IsSomeAnd z (λ e. e < starts)) (sym e) l

pub uncut : (xs : List ℕ) (i j p : ℕ) → slice_get (take j xs) i ≡ Some p → slice_get xs i ≡ Some p
uncut [] i zero p e = absurd (none-some p e)
uncut [] i (suc j) p e = absurd (none-some p e)
uncut (x ∷ xs) i zero p e = absurd (none-some p e)
uncut (x ∷ xs) zero (suc j) p e = e
uncut (x ∷ xs) (suc i) (suc j) p e = uncut xs i j p e

pub cut : (xs : List ℕ) (i j p : ℕ) → i < j → slice_get xs i ≡ Some p → slice_get (take j xs) i ≡ Some p
cut [] i j p l e = absurd (none-some p e)
cut (x ∷ xs) zero zero p l e = absurd (omega arith)
cut (x ∷ xs) zero (suc j) p l e = e
cut (x ∷ xs) (suc i) zero p l e = absurd (omega arith)
cut (x ∷ xs) (suc i) (suc j) p l e = cut xs i j p (omega arith) e

differ : Write ≡ Read → ⊥
differ e = cc

module _ {R : Type 0} where
  pub each_once : ListsEachOnce R
  each_once opening ops order p end op atomic at e =
      let i = listed opening ops order atomic p end op at e in
      (i.0, i.1, λ j f. alone opening ops order atomic p end i.0 j op at e i.1 f)

  found : (ops : List (Op R)) (p : ℕ) → p < length ops → (op : Op R) × (slice_get ops p ≡ Some op)
  found [] p l = absurd (omega arith)
  found (o ∷ ops) zero l = (o, refl)
  found (o ∷ ops) (suc p) l = found ops p (omega arith)

  entry : (ops : List (Op R)) (order : List ℕ) (i p : ℕ) (op : Op R) → slice_get order i ≡ Some p → slice_get ops p ≡ Some op →
      listed_at ops order i ≡ Some op
  entry ops order i p op e at = ap (option_and_then (slice_get ops)) e ∙ at

  pub nothing_else : ListsNothingElse R
  nothing_else opening ops order i p atomic e =
      let l = atomic.listing.places i p e in
      let o = found ops p l in (
        o.0,
        o.1,
        λ none. unfinished o.0.ends o.0.kind (times_of p order) none (times_some p i order e)
            (atomic.listing.stands p o.0 (omega arith) l o.1),
      )

  pub intervals : KeepsIntervals R
  intervals opening ops order i j p q end a b atomic x y at_p at_q ne e l =
      atomic.precedence i j a b (entry ops order i p a x at_p) (entry ops order j q b y at_q)
      (λ same. ne (same_Some p q (sym x ∙ ap (slice_get order) same ∙ y))) (precedes a.ends end b.starts e l)

  right : (kind : Kind) (item before : Option R) → kind ≡ Read → ReadsRight (λ x y. x ≡ y) kind item before →
      (x : R) × (item ≡ Some x) × (before ≡ Some x)
  right kind item before e h = split item before (subst (λ z. ReadsRight (λ x y. x ≡ y) z item before) e h)
    where
      split : (item before : Option R) → ReadsRight (λ x y. x ≡ y) Read item before → (x : R) × (item ≡ Some x) × (before ≡ Some x)
      split None before h = absurd h
      split (Some x) None h = absurd h
      split (Some x) (Some y) h = (x, refl, ap Some (sym h))

  pub reads : HasWhatIsThere R
  reads opening ops order i p op atomic e at k =
      right op.kind op.item (latest opening ops (take i order)) k (atomic.reading i op (entry ops order i p op e at))

  pub stale : StaleIsAbsurd R
  stale opening ops order p q end fin write read item at_p at_q writes reads_it only ended l finished has other atomic =
      let ne : p ≢ q = λ same. differ (sym writes
      ∙ ap (λ (z : Op R). z.kind) (same_Some write read (sym at_p ∙ ap (slice_get ops) same ∙ at_q)) ∙ reads_it) in
      let x = listed opening ops order atomic p end write at_p ended in
      let y = listed opening ops order atomic q fin read at_q finished in
      let before = intervals opening ops order x.0 y.0 p q end write read atomic x.1 y.1 at_p at_q ne ended l in
      let there = is_there opening ops p x.0 write (take y.0 order) at_p only writes (cut order x.0 y.0 p before x.1) in
      let is = reads opening ops order y.0 q read atomic y.1 at_q reads_it in
      other (sym there ∙ is.2 ∙ sym is.1 ∙ has)

  -- nothing is written before it
  pub waits_among : (limit : ℕ) (ops : List (Op R)) (order : List ℕ) (i p : ℕ) (op : Op R) → 0 < limit →
      RefusesLawfully (record { first = 0; limit = limit } ∷ []) ops order →
      ((y q : ℕ) (o : Op R) → slice_get (take i order) y ≡ Some q → slice_get ops q ≡ Some o → o.kind ≢ Write) →
      slice_get order i ≡ Some p → slice_get ops p ≡ Some op → op.kind ≢ Refused
  waits_among limit ops order i p op some lawful none e at refused =
      let least = lawful 0 (record { first = 0; limit = limit }) refl i p op e at refused within in
      let zero_of = counts_none (in_term (record { first = 0; limit = limit }) []) ops (take i order) none in
      omega (arith, some, least, zero_of)
    where
      least_of : nat_le 0 p ≡ true
      least_of = grind (arith, nat_tests)

      within : in_term (record { first = 0; limit = limit }) [] p ≡ true
      within = ap (λ b. b && true) least_of

  pub waits : WaitsForTheLimit R
  waits limit ops order i p op some lawful none e at refused =
      waits_among limit ops order i p op some lawful (λ y q o x. none q o) e at refused
