-- Where an operation's record can come from.
use Rattle.std.proofs.Common.{◌≡◌, ℕ, ◌+◌, ◌<◌, ◌≤◌, true, false, nat_lt, List, slice_get, Option, None, Some, ◌⊎◌}
use Rattle.std.proofs.Common.{option_map, unwrap_or, sym, ◌∙◌, ap, subst, arith, inl, inr}
use Rattle.std.specs.Prelude.{IsSomeAnd}
use Rattle.std.proofs.lemmas.Bool.{cases_lt}
use Rattle.std.proofs.lemmas.Bool.Decides.{nat_tests}
use Rattle.std.proofs.lemmas.Option.{same_Some}
use Rattle.object_core.specs.declared.operation.Operation.{Operation}
use Rattle.object_registers.specs.declared.exchanging.Exchange.{Exchange}
use Rattle.object_sources.specs.Sources.{HasFoundAnother, IsFoundEarly, IsFoundUnwritten, IsUnsourced, MayLeave}
use Rattle.object_sources.specs.inner.Firsts.{BeganFirst, IsFirstBelow, is_sooner, starts_at}

-- what ended before a moment ended before each later one
pub before_later : (ends : Option ℕ) (x y : ℕ) → x ≤ y → IsSomeAnd ends (λ end. end < x) → IsSomeAnd ends (λ end. end < y)
before_later None x y le h = h
before_later (Some end) x y le h = omega (arith, le, h)

-- of two that came first one began no later
pub no_later : (a b : ℕ) {P : Type 0} → (a < b) ⊎ ((a ≡ b) × P) → a ≤ b
no_later a b (inl l) = omega (arith, l)
no_later a b (inr h) = let e = h.0 in omega (arith, e)

-- an operation has found one record
pub one_found : (opening value other : ℕ) (o : Operation Exchange) → HasFoundAnother opening value o → HasFoundAnother opening other o →
    value ≡ other
one_found opening value other o a b = same_Some value other (sym a.found ∙ b.found)

module _ (log : List (Operation Exchange)) (value : ℕ) where
  -- when a source began
  pub source_starts : (q : ℕ) (s : MayLeave log value q) → starts_at log q ≡ s.op.starts
  source_starts q s = ap (λ m. unwrap_or (option_map (λ (o : Operation Exchange). o.starts) m) 0) s.at

  -- of fewer places it is the first too, if it is among them
  pub of_all : (n : ℕ) (first : Option ℕ) (m : ℕ) → m ≤ n → n ≤ m → IsFirstBelow log value n first → IsFirstBelow log value m first
  of_all n None m le ge h = λ q l s. h q (omega (arith, le, l)) s
  of_all n (Some source) m le ge h =
      let l = h.1 in (h.0, omega (arith, l, ge), λ q l s. h.2 q (omega (arith, le, l)) s)

  -- one more place, at which is no source
  pub none_there : (n : ℕ) (first : Option ℕ) → ¬ MayLeave log value n → IsFirstBelow log value n first →
      IsFirstBelow log value (n + 1) first
  none_there n None isnt h = λ q l s. (elim (cases_lt q n) [
    | inl less ↦ h q less s
    | inr le ↦ let e : q ≡ n = omega (arith, l, le) in isnt (subst (MayLeave log value) e s)
  ])
  none_there n (Some source) isnt h = let l = h.1 in (
    h.0,
    omega (arith, l),
    λ q l s. (elim (cases_lt q n) [
      | inl less ↦ h.2 q less s
      | inr le ↦ let e : q ≡ n = omega (arith, l, le) in absurd (isnt (subst (MayLeave log value) e s))
    ]),
  )

  -- or one that began no sooner
  pub no_sooner : (n : ℕ) (first : Option ℕ) → is_sooner log n first ≡ false → IsFirstBelow log value n first →
      IsFirstBelow log value (n + 1) first
  no_sooner n None late h = cc
  no_sooner n (Some source) late h = let l = h.1 in (
    h.0,
    omega (arith, l),
    λ q l s. (elim (cases_lt q n) [
      | inl less ↦ h.2 q less s
      | inr le ↦
          let e : q ≡ n = omega (arith, l, le) in
          let least : starts_at log source ≤ starts_at log n = no_less (starts_at log n) (starts_at log source) late in
          let m = h.1 in subst (BeganFirst log source) (sym e) (first_of_two (starts_at log source) (starts_at log n) least (omega (arith, m)))
    ]),
  )
    where
      no_less : (x y : ℕ) → nat_lt x y ≡ false → y ≤ x
      no_less x y e = grind (arith, nat_tests)

      first_of_two : (x y : ℕ) → x ≤ y → source ≤ n → (x < y) ⊎ ((x ≡ y) × (source ≤ n))
      first_of_two x y le m = elim (cases_lt x y) [
        | inl less ↦ inl less
        | inr ge ↦ inr (omega (arith, le, ge), m)
      ]

  -- or one that began sooner
  pub sooner_there : (n : ℕ) (first : Option ℕ) → MayLeave log value n → is_sooner log n first ≡ true →
      IsFirstBelow log value n first → IsFirstBelow log value (n + 1) (Some n)
  sooner_there n None here soon h = (
    here,
    omega arith,
    λ q l s. (elim (cases_lt q n) [
      | inl less ↦ absurd (h q less s)
      | inr le ↦ let e : q ≡ n = omega (arith, l, le) in inr (ap (starts_at log) (sym e), omega (arith, le))
    ]),
  )
  sooner_there n (Some source) here soon h = (
    here,
    omega arith,
    λ q l s. (elim (cases_lt q n) [
      | inl less ↦
          let le = no_later (starts_at log source) (starts_at log q) (h.2 q less s) in
          let lt : starts_at log n < starts_at log source = less_than (starts_at log n) (starts_at log source) soon in
          inl (omega (arith, le, lt))
      | inr le ↦ let e : q ≡ n = omega (arith, l, le) in inr (ap (starts_at log) (sym e), omega (arith, le))
    ]),
  )
    where
      less_than : (x y : ℕ) → nat_lt x y ≡ true → x < y
      less_than x y e = grind (arith, nat_tests)

  -- if a source began in time, the operation may have its record from there
  pub in_time : (opening place : ℕ) (op : Operation Exchange) → slice_get log place ≡ Some op → HasFoundAnother opening value op →
      (source : ℕ) → MayLeave log value source → ¬ IsSomeAnd op.ends (λ end. end < starts_at log source) →
      IsUnsourced opening log place None
  in_time opening place op at found source s late = (written, not_early)
    where
      written : ¬ IsFoundUnwritten opening log place
      written u =
          let same : op ≡ u.op = same_Some op u.op (sym at ∙ u.at) in
          let e = one_found opening value u.value u.op (subst (HasFoundAnother opening value) same found) u.found in
          u.none source (subst (λ z. MayLeave log z source) e s)

      not_early : (w : ℕ) → ¬ IsFoundEarly opening log place w
      not_early w h =
          let same : op ≡ h.op = same_Some op h.op (sym at ∙ h.at) in
          let e = one_found opening value h.value h.op (subst (HasFoundAnother opening value) same found) h.found in
          let other : MayLeave log h.value source = subst (λ z. MayLeave log z source) e s in
          let least : h.leaves.op.starts ≤ other.op.starts = no_later h.leaves.op.starts other.op.starts (h.first source other) in
          let began : starts_at log source ≡ other.op.starts =
          ap (λ m. unwrap_or (option_map (λ (o : Operation Exchange). o.starts) m) 0) other.at in
          let le : h.leaves.op.starts ≤ starts_at log source = omega (arith, least, began) in
          let P : Operation Exchange → Type 0 = λ z. IsSomeAnd z.ends (λ end. end < h.leaves.op.starts) in
          late (before_later op.ends h.leaves.op.starts (starts_at log source) le (subst P (sym same) h.precedes))

  -- the first of all, which began too late
  pub first_late : (opening place : ℕ) (op : Operation Exchange) → slice_get log place ≡ Some op → HasFoundAnother opening value op →
      (n source : ℕ) → IsFirstBelow log value n (Some source) → ((q : ℕ) → MayLeave log value q → q < n) →
      IsSomeAnd op.ends (λ end. end < starts_at log source) → IsFoundEarly opening log place source
  first_late opening place op at found n source h all late = record {
    op = op;
    value = value;
    at = at;
    found = found;
    leaves = h.0;
    precedes = subst (λ z. IsSomeAnd op.ends (λ end. end < z)) (source_starts source h.0) late;
    first = λ q other.
        (let P : ℕ → Type 0 = λ z. (z < other.op.starts) ⊎ ((z ≡ other.op.starts) × (source ≤ q)) in
        let Q : ℕ → Type 0 = λ z. (starts_at log source < z) ⊎ ((starts_at log source ≡ z) × (source ≤ q)) in
        subst P (source_starts source h.0) (subst Q (source_starts q other) (h.2 q (all q other) other)));
  }
