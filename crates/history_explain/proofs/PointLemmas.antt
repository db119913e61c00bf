-- The latest beginning so far is the earliest point: it is at most each bound of the beginnings up to its entry.
use Rattle.std.proofs.Common.{◌≡◌, ℕ, ◌<◌, ◌≤◌, max, List, [], ◌∷◌, length, get_or, slice_get, Option, None, Some, IfSome, zero, suc, arith}
use Rattle.std.proofs.Common.{refl, sym, ◌∙◌, ap, subst, inl, inr}
use Rattle.std.proofs.lemmas.Bool.{cases_lt}
use Rattle.std.proofs.lemmas.Option.{option_and_then_some, same_Some, slice_get-get_or}
use Rattle.std.specs.Option.{option_and_then}
use Rattle.history_core.specs.declared.history.Op.{Op}
use Rattle.history_explain.specs.inner.Earliest.{after_begin, AreReached, begin_at, earliest}
use Rattle.history_core.specs.Orders.{KeepsPrecedence, listed_at, Precedes}
use Rattle.history_explain.specs.Points.{AreEarliest, AreForwards, ArePoints, HasPoints, IsWithin}
use Rattle.history_core.proofs.Listed.{listed_within, some_and_from, some_and_of}

within_of : (starts : ℕ) (ends : Option ℕ) (a : ℕ) → starts ≤ a → IfSome ends (λ end. a ≤ end) → IsWithin starts ends a
within_of starts None a l h = l
within_of starts (Some end) a l h = (l, h)

starts_of : (starts : ℕ) (ends : Option ℕ) (a : ℕ) → IsWithin starts ends a → starts ≤ a
starts_of starts None a h = h
starts_of starts (Some end) a h = h.0

ends_of : (starts : ℕ) (ends : Option ℕ) (a end : ℕ) → IsWithin starts ends a → ends ≡ Some end → a ≤ end
ends_of starts None a end h e = cc
ends_of starts (Some x) a end h e = let s : x ≡ end = same_Some x end e in omega (arith, h.1)

before_end : (ends : Option ℕ) (starts a b : ℕ) → IsWithin starts ends b → a ≤ b → IfSome ends (λ end. a ≤ end)
before_end None starts a b h l = tt
before_end (Some end) starts a b h l = omega (arith, h.1)

module _ {R : Type 0} where
  pub length_earliest : (ops : List (Op R)) (low : ℕ) (order : List ℕ) → length (earliest ops low order) ≡ length order
  length_earliest ops low [] = refl
  length_earliest ops low (p ∷ order) = ap suc (length_earliest ops (begin_at low ops p) order)

  at_least : (low : ℕ) (o : Option (Op R)) → low ≤ after_begin low o
  at_least low None = omega arith
  at_least low (Some o) = omega arith

  -- no point is below the beginnings before it
  low_bound : (ops : List (Op R)) (low : ℕ) (order : List ℕ) (i a : ℕ) → slice_get (earliest ops low order) i ≡ Some a → low ≤ a
  low_bound ops low [] i a e = cc
  low_bound ops low (p ∷ order) zero a e = let s : begin_at low ops p ≡ a = same_Some _ a e in omega (arith, at_least low (slice_get ops p))
  low_bound ops low (p ∷ order) (suc i) a e = omega (arith, low_bound ops (begin_at low ops p) order i a e, at_least low (slice_get ops p))

  pub rising : (ops : List (Op R)) (low : ℕ) (order : List ℕ) (i j a b : ℕ) → i ≤ j → slice_get (earliest ops low order) i ≡ Some a →
      slice_get (earliest ops low order) j ≡ Some b → a ≤ b
  rising ops low [] i j a b le e f = cc
  rising ops low (p ∷ order) zero zero a b le e f = let s : a ≡ b = same_Some a b (sym e ∙ f) in omega arith
  rising ops low (p ∷ order) zero (suc j) a b le e f =
      let s : begin_at low ops p ≡ a = same_Some _ a e in
      omega (arith, low_bound ops (begin_at low ops p) order j b f)
  rising ops low (p ∷ order) (suc i) zero a b le e f = absurd (omega arith)
  rising ops low (p ∷ order) (suc i) (suc j) a b le e f = rising ops (begin_at low ops p) order i j a b (omega arith) e f

  -- each point is at or after its operation's beginning
  pub begun : (ops : List (Op R)) (low : ℕ) (order : List ℕ) (i a : ℕ) (o : Op R) → slice_get (earliest ops low order) i ≡ Some a →
      listed_at ops order i ≡ Some o → o.starts ≤ a
  begun ops low [] i a o e at = cc
  begun ops low (p ∷ order) zero a o e at =
      let s : begin_at low ops p ≡ a = same_Some _ a e in
      let q : begin_at low ops p ≡ max low o.starts = ap (after_begin low) at in
      omega arith
  begun ops low (p ∷ order) (suc i) a o e at = begun ops (begin_at low ops p) order i a o e at

  after_below : (low bound : ℕ) (o : Option (Op R)) → low ≤ bound → ((x : Op R) → o ≡ Some x → x.starts ≤ bound) → after_begin low o ≤ bound
  after_below low bound None l h = l
  after_below low bound (Some x) l h = let s = h x refl in omega arith

  -- a bound of the beginnings up to an entry is a bound of its point
  pub bounded : (ops : List (Op R)) (low : ℕ) (order : List ℕ) (i a bound : ℕ) → slice_get (earliest ops low order) i ≡ Some a →
      low ≤ bound → ((j : ℕ) (o : Op R) → j ≤ i → listed_at ops order j ≡ Some o → o.starts ≤ bound) → a ≤ bound
  bounded ops low [] i a bound e l h = cc
  bounded ops low (p ∷ order) zero a bound e l h =
      let s : begin_at low ops p ≡ a = same_Some _ a e in
      let b : begin_at low ops p ≤ bound = after_below low bound (slice_get ops p) l (λ x at. h 0 x (omega arith) at) in
      omega arith
  bounded ops low (p ∷ order) (suc i) a bound e l h =
      bounded ops (begin_at low ops p) order i a bound e (after_below low bound (slice_get ops p) l (λ x at. h 0 x (omega arith) at))
      (λ j o ji at. h (suc j) o (omega arith) at)

  -- a point of each entry
  point_at : (ops : List (Op R)) (order points : List ℕ) (i : ℕ) (o : Op R) → ArePoints ops order points → listed_at ops order i ≡ Some o →
      (a : ℕ) × (slice_get points i ≡ Some a) × IsWithin o.starts o.ends a
  point_at ops order points i o are at =
      let l = listed_within ops order i o at in
      let e : slice_get points i ≡ Some (get_or points i 0) = slice_get-get_or points i 0 (omega (arith, are.each)) in
      (get_or points i 0, e, are.within i _ o e at)

  -- a beginning up to an entry is at most its point
  pub below_points : (ops : List (Op R)) (order points : List ℕ) (i j b : ℕ) (o : Op R) → ArePoints ops order points → j ≤ i →
      listed_at ops order j ≡ Some o → slice_get points i ≡ Some b → o.starts ≤ b
  below_points ops order points i j b o are le at e =
      let w = point_at ops order points j o are at in
      omega (arith, starts_of o.starts o.ends w.0 w.2, are.rise j i w.0 b le w.1 e)

  pub earliest_least : (ops : List (Op R)) (order others : List ℕ) → ArePoints ops order others → (i a b : ℕ) →
      slice_get (earliest ops 0 order) i ≡ Some a → slice_get others i ≡ Some b → a ≤ b
  earliest_least ops order others are i a b e f =
      bounded ops 0 order i a b e (omega arith) (λ j o ji at. below_points ops order others i j b o are ji at f)

  listed_is : (ops : List (Op R)) (order : List ℕ) (i : ℕ) (o : Op R) (P : Type 0) → listed_at ops order i ≡ Some o →
      ((p : ℕ) → slice_get order i ≡ Some p → slice_get ops p ≡ Some o → P) → P
  listed_is ops order i o P at h = option_and_then_some (slice_get ops) (slice_get order i) o at h

  reached_end : (ops : List (Op R)) (p a : ℕ) (o : Op R) → slice_get ops p ≡ Some o →
      IfSome (slice_get ops p) (λ x. IfSome x.ends (λ end. a ≤ end)) → IfSome o.ends (λ end. a ≤ end)
  reached_end ops p a o e h = let P : Option (Op R) → Type 0 = λ z. IfSome z (λ x. IfSome x.ends (λ end. a ≤ end)) in subst P e h

  -- the earliest points are points where no operation ends before its own
  pub reached_are : (ops : List (Op R)) (order : List ℕ) → AreReached ops order (earliest ops 0 order) →
      ArePoints ops order (earliest ops 0 order)
  reached_are ops order reached = record {
    each = length_earliest ops 0 order;
    rise = rising ops 0 order;
    within = λ i a o e at. within_of o.starts o.ends a (begun ops 0 order i a o e at)
        (listed_is ops order i o _ at (λ p f g. reached_end ops p a o g (reached i p a f e)));
  }

  pub reached_earliest : (ops : List (Op R)) (order : List ℕ) → AreReached ops order (earliest ops 0 order) →
      AreEarliest ops order (earliest ops 0 order)
  reached_earliest ops order reached = record { are = reached_are ops order reached; least = earliest_least ops order }

  -- where there are points, no operation ends before its earliest
  pub points_reached : (ops : List (Op R)) (order : List ℕ) → HasPoints ops order → AreReached ops order (earliest ops 0 order)
  points_reached ops order has i p a e f = by_op (slice_get ops p) refl
    where
      by_op : (z : Option (Op R)) → slice_get ops p ≡ z → IfSome z (λ o. IfSome o.ends (λ end. a ≤ end))
      by_op None g = tt
      by_op (Some o) g =
          let at : listed_at ops order i ≡ Some o = ap (option_and_then (slice_get ops)) e ∙ g in
          let w = point_at ops order has.0 i o has.1 at in
          before_end o.ends o.starts a w.0 w.2 (earliest_least ops order has.0 has.1 i a w.0 f w.1)

  -- the law, in its two directions
  pub points_keep : (ops : List (Op R)) (order : List ℕ) → HasPoints ops order → KeepsPrecedence ops order × AreForwards ops order
  points_keep ops order has = (keeps, forwards)
    where
      keeps : KeepsPrecedence ops order
      keeps i j a b ai bj ne pre = elim (cases_lt i j) [
        | inl lt ↦ lt
        | inr le ↦
            let w = point_at ops order has.0 i a has.1 ai in
            let v = point_at ops order has.0 j b has.1 bj in
            let e = some_and_of (λ end. end < b.starts) a.ends pre in
            let up = has.1.rise j i v.0 w.0 le v.1 w.1 in
            absurd (omega (arith, up, e.2, starts_of b.starts b.ends v.0 v.2, ends_of a.starts a.ends w.0 e.0 w.2 e.1))
      ]

      forwards : AreForwards ops order
      forwards i o at =
          let w = point_at ops order has.0 i o has.1 at in
          before_end o.ends o.starts o.starts w.0 w.2 (starts_of o.starts o.ends w.0 w.2)

  pub kept_points : (ops : List (Op R)) (order : List ℕ) → KeepsPrecedence ops order → AreForwards ops order → HasPoints ops order
  kept_points ops order kept forwards = (earliest ops 0 order, reached_are ops order reached)
    where
      below : (i j a : ℕ) (o x : Op R) (ends : Option ℕ) → o.ends ≡ ends → listed_at ops order i ≡ Some o → j ≤ i →
          listed_at ops order j ≡ Some x → IfSome ends (λ end. x.starts ≤ end)
      below i j a o x None e at ji aj = tt
      below i j a o x (Some end) e at ji aj = elim (cases_lt end x.starts) [
        | inr le ↦ le
        | inl lt ↦
            let pre : Precedes o x = some_and_from (λ y. y < x.starts) o.ends end e lt in
            elim (cases_lt j i) [
              | inl less ↦
                  let more : i < j = kept i j o x at aj (λ (s : i ≡ j). let z : j < j = omega arith in omega arith) pre in
                  omega arith
              | inr ge ↦
                  let s : i ≡ j = omega arith in
                  let same : o ≡ x = same_Some o x (sym at ∙ ap (listed_at ops order) s ∙ aj) in
                  let F : Option ℕ → Type 0 = λ z. IfSome z (λ y. o.starts ≤ y) in
                  let f : o.starts ≤ end = subst F e (forwards i o at) in
                  let st : o.starts ≡ x.starts = ap (λ (z : Op R). z.starts) same in
                  omega arith
            ]
      ]

      reach : (i a : ℕ) (o : Op R) (ends : Option ℕ) → o.ends ≡ ends → listed_at ops order i ≡ Some o →
          slice_get (earliest ops 0 order) i ≡ Some a → IfSome ends (λ end. a ≤ end)
      reach i a o None e at f = tt
      reach i a o (Some end) e at f = bounded ops 0 order i a end f (omega arith) (λ j x ji aj. below i j a o x (Some end) e at ji aj)

      reached : AreReached ops order (earliest ops 0 order)
      reached i p a e f = by_op (slice_get ops p) refl
        where
          by_op : (z : Option (Op R)) → slice_get ops p ≡ z → IfSome z (λ o. IfSome o.ends (λ end. a ≤ end))
          by_op None g = tt
          by_op (Some o) g = reach i a o o.ends refl (ap (option_and_then (slice_get ops)) e ∙ g) f

  -- the points that were made, tested on the slices
  pub made_length : (ops : List (Op R)) (order items slice : List ℕ) → items ≡ earliest ops 0 order → slice ≡ items →
      length slice ≡ length order
  made_length ops order items slice made same = ap length (same ∙ made) ∙ length_earliest ops 0 order

  pub made_earliest : (ops shown : List (Op R)) (order items slice given : List ℕ) → shown ≡ ops → items ≡ earliest shown 0 order →
      slice ≡ items → given ≡ items → AreReached shown order slice → AreEarliest ops order given
  made_earliest ops shown order items slice given is made same out reached =
      let P : List ℕ → Type 0 = λ xs. AreReached shown order xs in
      let Q : List ℕ → Type 0 = λ xs. AreEarliest shown order xs in
      let S : List (Op R) → Type 0 = λ xs. AreEarliest xs order given in
      subst S is (subst Q (sym (out ∙ made)) (reached_earliest shown order (subst P (same ∙ made) reached)))

  pub made_none : (ops shown : List (Op R)) (order items slice : List ℕ) → shown ≡ ops → items ≡ earliest shown 0 order → slice ≡ items →
      ¬ AreReached shown order slice → ¬ HasPoints ops order
  made_none ops shown order items slice is made same missed has =
      let P : List ℕ → Type 0 = λ xs. AreReached shown order xs in
      let S : List (Op R) → Type 0 = λ xs. HasPoints xs order in
      missed (subst P (sym (same ∙ made)) (points_reached shown order (subst S (sym is) has)))
