-- The latest beginning of the entries before a place: an entry precedes one before it exactly where it ends before this beginning.
use Rattle.std.proofs.Common.{◌≡◌, ℕ, ◌+◌, ◌<◌, ◌≤◌, Bool, nat_lt, List, length, take, Some, IsSomeAnd, arith, refl, sym, ◌∙◌, ap, subst}
use Rattle.std.proofs.Common.{◌⊎◌, inl, inr}
use Rattle.std.specs.Prelude.{if◌then◌else◌}
use Rattle.std.proofs.lemmas.Bool.{cases_lt, cases_Bool}
use Rattle.std.proofs.lemmas.Bool.Decides.{nat_tests}
use Rattle.std.proofs.lemmas.Option.{same_Some}
use Rattle.history_explain.specs.Breaks.{IsLastBegun, IsOvertaken}
use Rattle.history_core.specs.Orders.{KeepsPrecedence, listed_at, Precedes}
use Rattle.history_explain.specs.inner.Searches.{later_of}
use Rattle.history_explain.specs.declared.breaks.precedence.Begun.{Begun}
use Rattle.history_core.specs.declared.history.Op.{Op}
use Rattle.history_explain.proofs.Fronts.{listed_front}
use Rattle.history_core.proofs.Listed.{listed_within, some_and_from, some_and_of}

module _ {R : Type 0} where
  -- no entry before n precedes one before it
  abbrev pub NoneUpTo : List (Op R) → List ℕ → ℕ → Type 0
  NoneUpTo ops order n =
      (x y : ℕ) (a b : Op R) → x < y → y < n → listed_at ops order x ≡ Some a → listed_at ops order y ≡ Some b → Precedes b a → ⊥

  -- this is the latest beginning before n, first met at this entry; before the first entry both are 0
  pub record IsLast (ops : List (Op R)) (order : List ℕ) (n : ℕ) (last : Begun) : Type 0 where
    pub most : (i : ℕ) (a : Op R) → i < n → listed_at ops order i ≡ Some a → a.starts ≤ last.starts
    pub first : (i : ℕ) (a : Op R) → i < last.entry → listed_at ops order i ≡ Some a → a.starts < last.starts
    pub met : ((n ≡ 0) × (last.entry ≡ 0) × (last.starts ≡ 0))
        ⊎ ((o : Op R) × (last.entry < n) × (listed_at ops order last.entry ≡ Some o) × (o.starts ≡ last.starts))

  pub kept_front : (ops : List (Op R)) (order : List ℕ) (n : ℕ) → NoneUpTo ops order n → KeepsPrecedence ops (take n order)
  kept_front ops order n none i j a b ai bj ne pre =
      let v = listed_front ops order n i a ai in
      let w = listed_front ops order n j b bj in
      elim (cases_lt i j) [ inl lt ↦ lt | inr le ↦ absurd (none j i b a (omega arith) v.0 w.1 v.1 pre) ]

  pub kept_all : (ops : List (Op R)) (order : List ℕ) (n : ℕ) → length order ≤ n → NoneUpTo ops order n → KeepsPrecedence ops order
  kept_all ops order n le none i j a b ai bj ne pre =
      let l = listed_within ops order i a ai in
      elim (cases_lt i j) [ inl lt ↦ lt | inr ge ↦ absurd (none j i b a (omega arith) (omega (arith, l)) bj ai pre) ]

  -- the operation that is listed at n
  same_at : (ops : List (Op R)) (order : List ℕ) (i n : ℕ) (a o : Op R) → i ≡ n → listed_at ops order i ≡ Some a →
      listed_at ops order n ≡ Some o → a ≡ o
  same_at ops order i n a o e ai at = same_Some a o (sym ai ∙ ap (listed_at ops order) e ∙ at)

  pub none_more : (ops : List (Op R)) (order : List ℕ) (n : ℕ) (o : Op R) (last : Begun) → listed_at ops order n ≡ Some o →
      IsLast ops order n last → (IsSomeAnd o.ends (λ e. e < last.starts) → ⊥) → NoneUpTo ops order n → NoneUpTo ops order (n + 1)
  none_more ops order n o last at is not_before none x y a b xy yn ax by pre =
      elim (cases_lt y n) [ inl lt ↦ none x y a b xy lt ax by pre | inr ge ↦ clash (omega arith) ]
    where
      clash : y ≡ n → ⊥
      clash e =
          let q : b ≡ o = same_at ops order y n b o e by at in
          let ends : b.ends ≡ o.ends = ap (λ (z : Op R). z.ends) q in
          let w = some_and_of (λ e. e < a.starts) b.ends pre in
          let m : a.starts ≤ last.starts = is.most x a (omega arith) ax in
          not_before (some_and_from (λ e. e < last.starts) o.ends w.0 (sym ends ∙ w.1) (omega (arith, w.2)))

  pub last_none : (ops : List (Op R)) (order : List ℕ) → IsLast ops order 0 (record { entry = 0; starts = 0 })
  last_none ops order = record { most = λ i a l. absurd (omega arith); first = λ i a l. absurd (omega arith); met = inl (refl, refl, refl) }

  -- the same before one more entry
  began_later : (ops : List (Op R)) (order : List ℕ) (n : ℕ) (o : Op R) (last : Begun) → listed_at ops order n ≡ Some o →
      IsLast ops order n last → last.starts < o.starts → IsLast ops order (n + 1) (record { entry = n; starts = o.starts })
  began_later ops order n o last at is lt = record {
    most = λ i a l ai. elim (cases_lt i n) [
      | inl li ↦ let m : a.starts ≤ last.starts = is.most i a li ai in omega arith
      | inr ge ↦ let e : a.starts ≡ o.starts = ap (λ (z : Op R). z.starts) (same_at ops order i n a o (omega arith) ai at) in omega arith
    ];
    first = λ i a l ai. let m : a.starts ≤ last.starts = is.most i a l ai in omega arith;
    met = inr (o, omega arith, at, refl);
  }

  no_later : (ops : List (Op R)) (order : List ℕ) (n : ℕ) (o : Op R) (last : Begun) → listed_at ops order n ≡ Some o →
      IsLast ops order n last → o.starts ≤ last.starts → IsLast ops order (n + 1) last
  no_later ops order n o last at is le = record {
    most = λ i a l ai. elim (cases_lt i n) [
      | inl li ↦ is.most i a li ai
      | inr ge ↦ let e : a.starts ≡ o.starts = ap (λ (z : Op R). z.starts) (same_at ops order i n a o (omega arith) ai at) in omega arith
    ];
    first = is.first;
    met = inr (elim is.met [
      | inl z ↦
          let at_last : listed_at ops order last.entry ≡ Some o = ap (listed_at ops order) (z.1 ∙ sym z.0) ∙ at in
          (o, omega (arith, z.0, z.1), at_last, omega (arith, z.2))
      | inr w ↦ (w.0, omega (arith, w.1), w.2, w.3)
    ]);
  }

  pub last_more : (ops : List (Op R)) (order : List ℕ) (n : ℕ) (o : Op R) (last : Begun) → listed_at ops order n ≡ Some o →
      IsLast ops order n last → IsLast ops order (n + 1) (later_of last (record { entry = n; starts = o.starts }))
  last_more ops order n o last at is =
      let next : Begun = record { entry = n; starts = o.starts } in
      let P : Bool → Type 0 = λ b. IsLast ops order (n + 1) (if b then next else last) in
      elim (cases_Bool (nat_lt last.starts o.starts)) [
        | inl t ↦ let lt : last.starts < o.starts = grind (arith, nat_tests) in subst P (sym t) (began_later ops order n o last at is lt)
        | inr f ↦ let le : o.starts ≤ last.starts = grind (arith, nat_tests) in subst P (sym f) (no_later ops order n o last at is le)
      ]

  pub overtaken_at : (ops : List (Op R)) (order : List ℕ) (n : ℕ) (o : Op R) (last : Begun) → listed_at ops order n ≡ Some o →
      IsLast ops order n last → NoneUpTo ops order n → IsSomeAnd o.ends (λ e. e < last.starts) → IsOvertaken ops order last.entry n
  overtaken_at ops order n o last at is none before =
      let b = some_and_of (λ e. e < last.starts) o.ends before in
      elim is.met [
        | inl z ↦ absurd (omega (arith, z.2, b.2))
        | inr w ↦
            let begun : IsLastBegun ops order n last.entry w.0 = record {
              listed = w.2;
              within = w.1;
              most = λ i a l ai. let m : a.starts ≤ last.starts = is.most i a l ai in omega (arith, w.3);
              first = λ i a l ai. let m : a.starts < last.starts = is.first i a l ai in omega (arith, w.3);
            } in
            let pre : Precedes o w.0 = some_and_from (λ e. e < w.0.starts) o.ends b.0 b.1 (omega (arith, b.2, w.3)) in
            let late : IsSomeAnd (listed_at ops order n) (λ b. Precedes b w.0) =
            some_and_from (λ b. Precedes b w.0) (listed_at ops order n) o at pre in
            record {
              precedes = some_and_from (λ a. IsLastBegun ops order n last.entry a × IsSomeAnd (listed_at ops order n) (λ b. Precedes b a))
                  (listed_at ops order last.entry) w.0 w.2 (begun, late);
              before = kept_front ops order n none;
            }
      ]
