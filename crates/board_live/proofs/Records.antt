-- The greater of two records, as boards and as played boards have them.
use Rattle.std.proofs.Common.{◌≡◌, ◌⊎◌, Bool, true, false, ℕ, zero, suc, List, [], ◌∷◌, map, slice_get, Some, refl, sym, ◌∙◌, ap, subst}
use Rattle.std.proofs.Common.{arith, inl, inr}
use Rattle.std.specs.Prelude.{if◌then◌else◌, IsTrue}
use Rattle.std.proofs.lemmas.Bool.Decides.{nat_tests}
use Rattle.std.proofs.lemmas.Option.{none-some, same_Some}
use Rattle.matrix_core.specs.declared.stamp.Stamp.{Stamp}
use Rattle.matrix_core.specs.Stamps.{greater as greater_stamped, IsBelow, is_below}
use Rattle.board_live.specs.declared.record.Posted.{Posted}
use Rattle.matrix_core.specs.Choices.{IsAtMost}
use Rattle.matrix_core.proofs.choices.Stamps.{at_most_below, at_most_trans, below_itself, greater_second}
use Rattle.matrix_core.specs.Stamps.{greatest as greatest_stamped}
use Rattle.board_live.specs.Records.{greater, greatest_posted, Rises, rises_itself, rises_on, stamped}

by_test : {V : Type 0} (a b : Posted V) (t : Bool) → stamped (if t then b else a) ≡ (if t then stamped b else stamped a)
by_test a b true = refl
by_test a b false = refl

pub stamped_greater : {V : Type 0} (a b : Posted V) → stamped (greater a b) ≡ greater_stamped (stamped a) (stamped b)
stamped_greater a b = by_test a b (is_below a.stamp b.stamp)

pub below_true : (a b : Stamp) → is_below a b ≡ true → IsBelow a b
below_true a b h = grind (arith, nat_tests)

rises_test : {V : Type 0} (a b : Posted V) (t : Bool) → is_below a.stamp b.stamp ≡ t → Rises a (if t then b else a)
rises_test a b true e = inl (below_true a.stamp b.stamp e)
rises_test a b false e = inr (refl, refl)

pub rises_greater : {V : Type 0} (a b : Posted V) → Rises a (greater a b)
rises_greater a b = rises_test a b (is_below a.stamp b.stamp) refl

either_test : {V : Type 0} (obeys : V → Bool) (a b : Posted V) (t : Bool) → IsTrue (obeys a.item) → IsTrue (obeys b.item) →
    IsTrue (obeys (if t then b else a).item)
either_test obeys a b true p q = q
either_test obeys a b false p q = p

pub greater_either : {V : Type 0} (obeys : V → Bool) (a b : Posted V) → IsTrue (obeys a.item) → IsTrue (obeys b.item) →
    IsTrue (obeys (greater a b).item)
greater_either obeys a b p q = either_test obeys a b (is_below a.stamp b.stamp) p q

-- a record that rises to one of the same stamp is that one
pub risen : {V : Type 0} (a b : Posted V) → Rises a b → a.stamp ≡ b.stamp → b ≡ a
risen a b (inl l) same = absurd (below_itself b.stamp (subst (λ z. IsBelow z b.stamp) same l))
risen a b (inr e) same = ap (λ (z : Stamp × _). record { stamp = z.0; item = z.1 }) (λ k. (sym e.0 k, sym e.1 k))

pub rises_at_most : {V : Type 0} (a b : Posted V) → Rises a b → IsAtMost a.stamp b.stamp
rises_at_most a b (inl l) = inr l
rises_at_most a b (inr e) = inl e.0

-- which of two is the greater, with what the test says
pub either_greater : {V : Type 0} (a b : Posted V) → (greater a b ≡ a) ⊎ ((greater a b ≡ b) × IsBelow a.stamp b.stamp)
either_greater a b = by a b (is_below a.stamp b.stamp) refl
  where
    by : {V : Type 0} (a b : Posted V) (t : Bool) → is_below a.stamp b.stamp ≡ t →
        ((if t then b else a) ≡ a) ⊎ (((if t then b else a) ≡ b) × IsBelow a.stamp b.stamp)
    by a b true e = inr (refl, below_true a.stamp b.stamp e)
    by a b false e = inl refl

-- one that isn't above changes nothing
pub not_above : {V : Type 0} (a b : Posted V) → IsAtMost b.stamp a.stamp → greater a b ≡ a
not_above a b l = elim (either_greater a b) [
  | inl e ↦ e
  | inr x ↦ absurd (below_itself b.stamp (at_most_below b.stamp a.stamp b.stamp l x.1))
]

second_at_most : {V : Type 0} (a b : Posted V) → IsAtMost b.stamp (greater a b).stamp
second_at_most a b = subst (λ z. IsAtMost b.stamp z.stamp) (sym (stamped_greater a b)) (greater_second (stamped a) (stamped b))

pub stamped_greatest : {V : Type 0} (own : Posted V) (answers : List (Posted V)) →
    stamped (greatest_posted own answers) ≡ greatest_stamped (stamped own) (map stamped answers)
stamped_greatest own [] = refl
stamped_greatest own (x ∷ xs) = stamped_greatest (greater own x) xs
    ∙ ap (λ z. greatest_stamped z (map stamped xs)) (stamped_greater own x)

pub rises_greatest : {V : Type 0} (own : Posted V) (answers : List (Posted V)) → Rises own (greatest_posted own answers)
rises_greatest own [] = rises_itself own
rises_greatest own (x ∷ xs) =
    rises_on own (greater own x) (greatest_posted (greater own x) xs) (rises_greater own x) (rises_greatest (greater own x) xs)

-- none of the answers is above the greatest
pub least : {V : Type 0} (own : Posted V) (answers : List (Posted V)) (e : ℕ) (answer : Posted V) → slice_get answers e ≡ Some answer →
    IsAtMost answer.stamp (greatest_posted own answers).stamp
least own [] e answer h = absurd (none-some answer h)
least own (x ∷ xs) zero answer h = subst (λ z. IsAtMost z.stamp (greatest_posted (greater own x) xs).stamp) (same_Some x answer h)
    (at_most_trans x.stamp (greater own x).stamp (greatest_posted (greater own x) xs).stamp (second_at_most own x)
    (rises_at_most (greater own x) (greatest_posted (greater own x) xs) (rises_greatest (greater own x) xs)))
least own (x ∷ xs) (suc e) answer h = least (greater own x) xs e answer h

-- the greatest is the own record, or one of the answers
pub greatest_from : {V : Type 0} (own : Posted V) (answers : List (Posted V)) →
    (greatest_posted own answers ≡ own) ⊎ ((e : ℕ) × (slice_get answers e ≡ Some (greatest_posted own answers)))
greatest_from own [] = inl refl
greatest_from own (x ∷ xs) = elim (greatest_from (greater own x) xs) [
  | inl g ↦ elim (either_greater own x) [
    | inl a ↦ inl (g ∙ a)
    | inr b ↦ inr (0, ap Some (sym (g ∙ b.0)))
  ]
  | inr w ↦ inr (suc w.0, w.1)
]
