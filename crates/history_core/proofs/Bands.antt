-- Two bands are the same by their fields exactly where they are equal, so the two relations are equal, and what is said of one is said
-- of the other.
use Rattle.std.proofs.Common.{rules, tests, ◌≡◌, ◌&&◌, Bool, true, IsTrue, eqb, ap}
use Rattle.std.proofs.Math.Bool.{Bool-set}
use Rattle.std.proofs.Math.Nat.{ℕ_set}
use Rattle.history_core.specs.declared.band.Band.{Band}
use std.Univalence.{h_prop_ext}

abbrev pub HaveSameFields : Band → Band → Type 0
HaveSameFields x y = IsTrue (eqb x.lo y.lo && (eqb x.now y.now && eqb x.hi y.hi))

same_from_fields : (x y : Band) → HaveSameFields x y → x ≡ y
same_from_fields x y same = search (rules, tests)

fields_from_same : (x y : Band) → x ≡ y → HaveSameFields x y
fields_from_same x y same = search (rules, tests)

bands_are_a_set : (x y : Band) → IsProp (x ≡ y)
bands_are_a_set x y p q = λ j i. record {
  lo = ℕ_set x.lo y.lo (ap (λ b. b.lo) p) (ap (λ b. b.lo) q) j i;
  now = ℕ_set x.now y.now (ap (λ b. b.now) p) (ap (λ b. b.now) q) j i;
  hi = ℕ_set x.hi y.hi (ap (λ b. b.hi) p) (ap (λ b. b.hi) q) j i;
}

true_is_a_prop : (b : Bool) → IsProp (IsTrue b)
true_is_a_prop b = Bool-set b true

pub fields_are_equality : HaveSameFields ≡ (λ x y. x ≡ y)
fields_are_equality = λ i x y. h_prop_ext (true_is_a_prop _) (bands_are_a_set x y) (same_from_fields x y) (fields_from_same x y) i
