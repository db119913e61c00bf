-- The order of stamps, by cases of tags and writers; where writers fit a `usize`, it is that of numbers.
use Rattle.std.proofs.Common.{◌≡◌, ℕ, ◌+◌, ◌*◌, ◌<◌, ◌≤◌, Bool, true, false, refl, sym, ap, subst, arith, ◌⊎◌, inl, inr}
use Rattle.std.specs.Prelude.{if◌then◌else◌}
use Rattle.std.proofs.lemmas.Bool.{cases_order}
use Rattle.std.proofs.lemmas.Bool.Decides.{nat_tests}
use Rattle.matrix_core.specs.declared.stamp.Stamp.{Stamp}
use Rattle.matrix_core.specs.declared.stamp.Stamped.{Stamped}
use Rattle.matrix_core.specs.Choices.{IsAtMost}
use Rattle.matrix_core.specs.Stamps.{IsBelow, greater, is_below}

-- stamps as numbers: where the writers are below 2^64, the greater stamp has the greater number
abbrev pub rank : Stamp → ℕ
rank s = s.tag * 18446744073709551616 + s.writer

pub stamp_same : (a b : Stamp) → a.tag ≡ b.tag → a.writer ≡ b.writer → a ≡ b
stamp_same a b t w = rw (t, w) refl

pub below_itself : (a : Stamp) → ¬ IsBelow a a
below_itself a (inl l) = omega arith
below_itself a (inr h) = let l : a.writer < a.writer = h.1 in omega arith

pub below_trans : (a b c : Stamp) → IsBelow a b → IsBelow b c → IsBelow a c
below_trans a b c (inl l) (inl m) = inl (omega arith)
below_trans a b c (inl l) (inr m) = let e : b.tag ≡ c.tag = m.0 in inl (omega arith)
below_trans a b c (inr l) (inl m) = let e : a.tag ≡ b.tag = l.0 in inl (omega arith)
below_trans a b c (inr l) (inr m) =
    let e : a.tag ≡ b.tag = l.0 in
    let f : b.tag ≡ c.tag = m.0 in
    let x : a.writer < b.writer = l.1 in
    let y : b.writer < c.writer = m.1 in
    inr (omega arith, omega arith)

pub at_most_refl : (a : Stamp) → IsAtMost a a
at_most_refl a = inl refl

pub below_at_most : (a b c : Stamp) → IsBelow a b → IsAtMost b c → IsBelow a c
below_at_most a b c l (inl e) = subst (λ z. IsBelow a z) e l
below_at_most a b c l (inr m) = below_trans a b c l m

pub at_most_below : (a b c : Stamp) → IsAtMost a b → IsBelow b c → IsBelow a c
at_most_below a b c (inl e) l = subst (λ z. IsBelow z c) (sym e) l
at_most_below a b c (inr m) l = below_trans a b c m l

pub at_most_trans : (a b c : Stamp) → IsAtMost a b → IsAtMost b c → IsAtMost a c
at_most_trans a b c (inl e) h = subst (λ z. IsAtMost z c) (sym e) h
at_most_trans a b c (inr l) h = inr (below_at_most a b c l h)

-- of two stamps one is at most the other
pub below_or_not : (a b : Stamp) → IsBelow a b ⊎ IsAtMost b a
below_or_not a b = elim (cases_order a.tag b.tag) [
  | inr (inl l) ↦ inl (inl l)
  | inr (inr l) ↦ inr (inr (inl l))
  | inl e ↦ elim (cases_order a.writer b.writer) [
    | inr (inl l) ↦ inl (inr (e, l))
    | inr (inr l) ↦ inr (inr (inr (sym e, l)))
    | inl w ↦ inr (inl (stamp_same b a (sym e) (sym w)))
  ]
]

-- what the test says
tested : (a b : Stamp) → (is_below a b ≡ true) → IsBelow a b
tested a b h = grind (arith, nat_tests)

not_tested : (a b : Stamp) → (is_below a b ≡ false) → IsBelow a b → ⊥
not_tested a b h l = grind (arith, nat_tests)

module _ {R : Type 0} where
  -- the greater of two is one of them, and neither is greater
  pub greater_is : (a b : Stamped R) → (greater a b ≡ a) ⊎ (greater a b ≡ b)
  greater_is a b = by_test (is_below a.stamp b.stamp)
    where
      by_test : (t : Bool) → ((if t then b else a) ≡ a) ⊎ ((if t then b else a) ≡ b)
      by_test true = inr refl
      by_test false = inl refl

  pub greater_first : (a b : Stamped R) → IsAtMost a.stamp (greater a b).stamp
  greater_first a b = by_test (is_below a.stamp b.stamp) refl
    where
      by_test : (t : Bool) → is_below a.stamp b.stamp ≡ t → IsAtMost a.stamp (if t then b else a).stamp
      by_test true h = inr (tested a.stamp b.stamp h)
      by_test false h = inl refl

  pub greater_second : (a b : Stamped R) → IsAtMost b.stamp (greater a b).stamp
  greater_second a b = by_test (is_below a.stamp b.stamp) refl
    where
      by_test : (t : Bool) → is_below a.stamp b.stamp ≡ t → IsAtMost b.stamp (if t then b else a).stamp
      by_test true h = inl refl
      by_test false h = elim (below_or_not a.stamp b.stamp) [ inl l ↦ absurd (not_tested a.stamp b.stamp h l) | inr m ↦ m ]

-- stamps as numbers
abbrev pub Fits : Stamp → Type 0
Fits a = a.writer < 18446744073709551616

pub rank_below : (a b : Stamp) → Fits a → IsBelow a b → rank a < rank b
rank_below a b f (inl l) = omega arith
rank_below a b f (inr h) = let e : a.tag ≡ b.tag = h.0 in let l : a.writer < b.writer = h.1 in omega arith

pub rank_at_most : (a b : Stamp) → Fits a → IsAtMost a b → rank a ≤ rank b
rank_at_most a b f (inl e) = let r : rank a ≡ rank b = ap rank e in omega arith
rank_at_most a b f (inr l) = let r : rank a < rank b = rank_below a b f l in omega arith

pub rank_same : (a b : Stamp) → Fits a → Fits b → rank a ≡ rank b → a ≡ b
rank_same a b f g e = elim (below_or_not a b) [
  | inl l ↦ let r : rank a < rank b = rank_below a b f l in absurd (omega arith)
  | inr (inl s) ↦ sym s
  | inr (inr l) ↦ let r : rank b < rank a = rank_below b a g l in absurd (omega arith)
]
