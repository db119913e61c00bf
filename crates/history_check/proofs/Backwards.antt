-- The least end of the entries from a place on: one more entry in front lowers it or leaves it, and an entry is preceded by a later
-- one exactly where this end is before its beginning.
use Rattle.std.proofs.Common.{◌≡◌, ℕ, ◌+◌, ◌<◌, ◌≤◌, min, List, Option, None, Some, IsSomeAnd, arith, refl, sym, ◌∙◌, ap, ◌⊎◌, inl, inr}
use Rattle.std.proofs.lemmas.Bool.{cases_lt}
use Rattle.std.proofs.lemmas.Option.{same_Some}
use Rattle.history_core.specs.declared.history.Op.{Op}
use Rattle.history_check.specs.inner.Ends.{earlier_of}
use Rattle.history_core.specs.Orders.{listed_at, KeepsPrecedence}
use Rattle.history_core.proofs.Listed.{NoneBackFrom, some_and_of, some_and_from}

pub record IsLeastEnd {R : Type 0} (ops : List (Op R)) (order : List ℕ) (i : ℕ) (m : Option ℕ) : Type 0 where
  -- no end from i on is before it
  pub bound : (y : ℕ) (b : Op R) (e : ℕ) → i ≤ y → listed_at ops order y ≡ Some b → b.ends ≡ Some e → (k : ℕ) × (m ≡ Some k) × (k ≤ e)
  -- and it is one of them
  pub met : (k : ℕ) → m ≡ Some k → (y : ℕ) × (b : Op R) × (i ≤ y) × (listed_at ops order y ≡ Some b) × (b.ends ≡ Some k)

least_bound : (m n : Option ℕ) (e : ℕ) → (n ≡ Some e) ⊎ ((k : ℕ) × (m ≡ Some k) × (k ≤ e)) → (k : ℕ) × (earlier_of m n ≡ Some k) × (k ≤ e)
least_bound (Some x) (Some y) e (inl p) = let q : y ≡ e = cc in (min x y, refl, omega arith)
least_bound (Some x) (Some y) e (inr p) = let q : x ≡ p.0 = let r = p.1 in cc in (min x y, refl, omega arith)
least_bound (Some x) None e (inl p) = cc
least_bound (Some x) None e (inr p) = p
least_bound None n e (inl p) = (e, p, omega arith)
least_bound None n e (inr p) = let r = p.1 in cc

least_met : (m n : Option ℕ) (k : ℕ) → earlier_of m n ≡ Some k → (n ≡ Some k) ⊎ (m ≡ Some k)
least_met (Some x) (Some y) k p =
    let q : min x y ≡ k = cc in
    elim (cases_lt x y) [ inl e ↦ inr (ap Some (omega arith)) | inr e ↦ inl (ap Some (omega arith)) ]
least_met (Some x) None k p = inr p
least_met None n k p = inl p

pub least_step : {R : Type 0} (ops : List (Op R)) (order : List ℕ) (i j : ℕ) (o : Op R) (m : Option ℕ) → j + 1 ≡ i →
    listed_at ops order j ≡ Some o → IsLeastEnd ops order i m → IsLeastEnd ops order j (earlier_of m o.ends)
least_step {R} ops order i j o m ji at h = record {
  bound = λ y b e jy aty be.
      least_bound m o.ends e (elim (here y jy) [ inl e1 ↦ inl (same y b e aty be e1) | inr lt ↦ inr (h.bound y b e lt aty be) ]);
  met = λ k mk. elim (least_met m o.ends k mk) [
    | inl e ↦ (j, o, omega arith, at, e)
    | inr e ↦
        let w = h.met k e in
        (w.0, w.1, omega arith, w.3, w.4)
  ];
}
  where
    here : (y : ℕ) → j ≤ y → (y ≡ j) ⊎ (i ≤ y)
    here y jy = elim (cases_lt j y) [ inl lt ↦ inr (omega arith) | inr le ↦ inl (omega arith) ]

    same : (y : ℕ) (b : Op R) (e : ℕ) → listed_at ops order y ≡ Some b → b.ends ≡ Some e → y ≡ j → o.ends ≡ Some e
    same y b e aty be yj =
        let q : listed_at ops order y ≡ listed_at ops order j = ap (listed_at ops order) yj in
        let r : b ≡ o = same_Some b o (sym aty ∙ q ∙ at) in
        let t : b.ends ≡ o.ends = ap (λ (z : Op R). z.ends) r in
        cc

pub none_step : {R : Type 0} (ops : List (Op R)) (order : List ℕ) (i j : ℕ) (o : Op R) (m : Option ℕ) → j + 1 ≡ i → listed_at ops order j
    ≡ Some o → IsLeastEnd ops order i m → (IsSomeAnd m (λ e. e < o.starts) → ⊥) → NoneBackFrom ops order i → NoneBackFrom ops order j
none_step {R} ops order i j o m ji at h not_before none x y a b jx xy ax by pre =
    elim (here x jx) [ inl e ↦ clash e | inr lt ↦ none x y a b lt xy ax by pre ]
  where
    here : (y : ℕ) → j ≤ y → (y ≡ j) ⊎ (i ≤ y)
    here y jy = elim (cases_lt j y) [ inl lt ↦ inr (omega arith) | inr le ↦ inl (omega arith) ]

    clash : x ≡ j → ⊥
    clash xj =
        let q : listed_at ops order x ≡ listed_at ops order j = ap (listed_at ops order) xj in
        let r : a ≡ o = same_Some a o (sym ax ∙ q ∙ at) in
        let t : a.starts ≡ o.starts = ap (λ (z : Op R). z.starts) r in
        let w = some_and_of (λ e. e < a.starts) b.ends pre in
        let k = h.bound y b w.0 (omega arith) by w.1 in
        not_before (some_and_from (λ e. e < o.starts) m k.0 k.1 (omega (arith, t, w.2, k.2)))

-- an end before this operation's beginning breaks the rule
pub broken_at : {R : Type 0} (ops : List (Op R)) (order : List ℕ) (i j : ℕ) (o : Op R) (m : Option ℕ) → j < i →
    listed_at ops order j ≡ Some o → IsLeastEnd ops order i m → IsSomeAnd m (λ e. e < o.starts) → KeepsPrecedence ops order → ⊥
broken_at ops order i j o m ji at h before kept =
    let w = some_and_of (λ e. e < o.starts) m before in
    let y = h.met w.0 w.1 in
    let lt : y.0 < j = kept y.0 j y.1 o y.3 at (omega (arith, y.2)) (some_and_from (λ e. e < o.starts) y.1.ends w.0 y.4 w.2) in
    omega (arith, y.2)
