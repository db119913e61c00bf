-- Where two registers go on alike: one from which something is left out, and two whose records nothing asks for.
use Rattle.std.proofs.Common.{◌≡◌, ◌≢◌, ℕ, ◌&&◌, not, Bool, true, false, cond, nat_eq, List, [], ◌∷◌, slice_get}
use Rattle.std.proofs.Common.{None, Some, refl, sym, ◌∙◌, ap, subst, arith, ◌⊎◌, inl, inr}
use Rattle.std.proofs.lemmas.Bool.{and_parts, cases_eq}
use Rattle.std.proofs.lemmas.Bool.Decides.{nat_tests}
use Rattle.std.proofs.lemmas.Option.{same_Some}
use Rattle.object_core.specs.declared.operation.Operation.{Operation}
use Rattle.object_core.specs.Logs.{CanMake, IsLawfulOrder}
use Rattle.object_registers.specs.declared.exchanging.Exchange.{Exchange}
use Rattle.object_registers.specs.declared.exchanging.Exchange.TheVariants.{Sets, Gets, Swaps, Misses, Finds, Tries, Refuses}
use Rattle.object_registers.specs.declared.exchanging.Exchanging.{Exchanging}
use Rattle.object_registers.specs.Registers.{exchanging_after, Makes}
use Rattle.object_window.specs.Losses.{asked_of, holding, IsUnasked}
use Rattle.object_window.specs.Windows.{IsUnseen, LooksAt}

same_if : (m n : ℕ) → nat_eq m n ≡ true → m ≡ n
same_if m n e = grind (arith, nat_tests)

differ : (m n : ℕ) → m ≢ n → nat_eq m n ≡ false
differ m n ne = grind (arith, nat_tests)

-- a test that has to hold, or that mustn't
has_held : {S : Type 0} (b : Bool) (s t : S) → cond b (Some s) None ≡ Some t → (b ≡ true) × (s ≡ t)
has_held true s t e = (refl, same_Some s t e)
has_held false s t e = cc

has_not : {S : Type 0} (b : Bool) (s t : S) → cond b None (Some s) ≡ Some t → (b ≡ false) × (s ≡ t)
has_not false s t e = (refl, same_Some s t e)
has_not true s t e = cc

-- what a compare-and-set puts in the place of what it found is the same record, or another one
puts : (x : Exchanging) (from to : ℕ) (t : Exchanging) → nat_eq x.held from ≡ true → holding to ≡ t →
    (t ≡ x) ⊎ ((to ≡ t.held) × (from ≢ t.held))
puts x from to t there is = elim (cases_eq from to) [
  | inl e ↦ inl (sym is ∙ (ap holding (sym e) ∙ ap holding (sym (same_if x.held from there))))
  | inr ne ↦ let p : to ≡ t.held = ap (λ (z : Exchanging). z.held) is in inr (p, λ z. ne (z ∙ sym p))
]

-- what an operation leaves is what was there, or what it makes
pub stays_or_makes : (x : Exchanging) (what : Exchange) (t : Exchanging) → exchanging_after x what ≡ Some t →
    (t ≡ x) ⊎ Makes t.held what
stays_or_makes x (Sets value) t e = inr (ap (λ (z : Exchanging). z.held) (same_Some (holding value) t e))
stays_or_makes x (Gets value) t e = inl (sym (has_held (nat_eq x.held value) x t e).1)
stays_or_makes x (Swaps from to) t e = let h = has_held (nat_eq x.held from) (holding to) t e in puts x from to t h.0 h.1
stays_or_makes x (Misses from) t e = inl (sym (has_not (nat_eq x.held from) x t e).1)
stays_or_makes x (Finds from found) t e = inl (sym (has_held (nat_eq x.held found && not (nat_eq from found)) x t e).1)
stays_or_makes x (Tries from to) t e = by_test (nat_eq x.held from) refl e
  where
    by_test : (b : Bool) → nat_eq x.held from ≡ b → Some (cond b (holding to) x) ≡ Some t → (t ≡ x) ⊎ Makes t.held (Tries from to)
    by_test true g f = puts x from to t g (same_Some (holding to) t f)
    by_test false g f = inl (sym (same_Some x t f))
stays_or_makes x (Refuses seen) t e = inl (sym (has_held (nat_eq x.held seen) x t e).1)

-- the other register goes on like this one, where something looks at what this one holds
module _ (little : List (Operation Exchange)) where
  abbrev pub AreAlike : Exchanging → Exchanging → Type 0
  AreAlike x y = (i : ℕ) (o : Operation Exchange) → slice_get little i ≡ Some o → LooksAt x.held o.what → x ≡ y

  -- an operation is left out
  pub left_out : (x y : Exchanging) (what : Exchange) (t : Exchanging) → exchanging_after x what ≡ Some t →
      IsUnseen little what → AreAlike x y → AreAlike t y
  left_out x y what t e unseen alike i o at looks = by_state (stays_or_makes x what t e)
    where
      by_state : (t ≡ x) ⊎ Makes t.held what → t ≡ y
      by_state (inl same) =
          let P : Exchanging → Type 0 = λ z. LooksAt z.held o.what in same ∙ alike i o at (subst P same looks)
      by_state (inr makes) = absurd (unseen t.held i o makes at looks)

  abbrev GoesOn : Exchanging → Exchange → Exchanging → Type 0
  GoesOn y what t = (u : Exchanging) × (exchanging_after y what ≡ Some u) × AreAlike t u

  as_well : (x y : Exchanging) (what : Exchange) (t : Exchanging) → exchanging_after x what ≡ Some t → x ≡ y → GoesOn y what t
  as_well x y what t e same =
      let P : Exchanging → Type 0 = λ z. exchanging_after z what ≡ Some t in (t, subst P same e, λ i o at looks. refl)

  -- an operation of the little log is made
  pub both_made : (x y : Exchanging) (what : Exchange) (t : Exchanging) → exchanging_after x what ≡ Some t → AreAlike x y →
      (i : ℕ) (o : Operation Exchange) → slice_get little i ≡ Some o → o.what ≡ what → GoesOn y what t
  both_made x y what t e alike i o at is = by_what what e (λ looks. alike i o at (subst (LooksAt x.held) (sym is) looks))
    where
      by_what : (made : Exchange) → exchanging_after x made ≡ Some t → (LooksAt x.held made → x ≡ y) → GoesOn y made t
      by_what (Sets value) f looked =
          (holding value, refl, λ j p pj looks. sym (same_Some (holding value) t f))
      by_what (Gets value) f looked =
          let h = has_held (nat_eq x.held value) x t f in
          as_well x y (Gets value) t f (looked (sym (same_if x.held value h.0)))
      by_what (Swaps from to) f looked =
          let h = has_held (nat_eq x.held from) (holding to) t f in
          as_well x y (Swaps from to) t f (looked (sym (same_if x.held from h.0)))
      by_what (Misses from) f looked = as_well x y (Misses from) t f (looked tt)
      by_what (Finds from found) f looked =
          let h = has_held (nat_eq x.held found && not (nat_eq from found)) x t f in
          as_well x y (Finds from found) t f (looked (sym (same_if x.held found (and_parts (nat_eq x.held found) _ h.0).0)))
      by_what (Tries from to) f looked = by_test (nat_eq x.held from) refl f
        where
          by_test : (b : Bool) → nat_eq x.held from ≡ b → Some (cond b (holding to) x) ≡ Some t → GoesOn y (Tries from to) t
          by_test true g h = as_well x y (Tries from to) t f (looked (sym (same_if x.held from g)))
          by_test false g h =
              let stays : x ≡ t = same_Some x t h in
              let u : Exchanging = cond (nat_eq y.held from) (holding to) y in (
                u,
                refl,
                λ j p pj looks.
                    let P : Exchanging → Type 0 = λ z. LooksAt z.held p.what in
                    let same : x ≡ y = alike j p pj (subst P (sym stays) looks) in
                    let Q : Exchanging → Type 0 = λ z. exchanging_after z (Tries from to) ≡ Some t in
                    sym (same_Some (cond (nat_eq y.held from) (holding to) y) t (subst Q same f)),
              )
      by_what (Refuses seen) f looked =
          let h = has_held (nat_eq x.held seen) x t f in
          as_well x y (Refuses seen) t f (looked (sym (same_if x.held seen h.0)))

-- two registers, where no operation asks for what they hold
module _ (log : List (Operation Exchange)) where
  abbrev AreUnasked : Exchanging → Exchanging → Type 0
  AreUnasked x y = (x ≡ y) ⊎ (IsUnasked log x.held × IsUnasked log y.held)

  abbrev Follows : Exchanging → Exchange → Exchanging → Type 0
  Follows y what t = (u : Exchanging) × (exchanging_after y what ≡ Some u) × AreUnasked t u

  step : (x y : Exchanging) (i : ℕ) (o : Operation Exchange) → slice_get log i ≡ Some o → (t : Exchanging) →
      exchanging_after x o.what ≡ Some t → AreUnasked x y → Follows y o.what t
  step x y i o at t e (inl same) =
      let P : Exchanging → Type 0 = λ z. exchanging_after z o.what ≡ Some t in (t, subst P same e, inl refl)
  step x y i o at t e (inr free) = by_what o.what e (free.0 i o at) (free.1 i o at)
    where
      stays : (made : Exchange) → exchanging_after y made ≡ Some y → x ≡ t → Follows y made t
      stays made f same =
          let P : Exchanging → Type 0 = λ z. IsUnasked log z.held in (y, f, inr (subst P same free.0, free.1))

      by_what : (made : Exchange) → exchanging_after x made ≡ Some t → asked_of made ≢ Some x.held → asked_of made ≢ Some y.held →
          Follows y made t
      by_what (Sets value) f nx ny = (holding value, refl, inl (sym (same_Some (holding value) t f)))
      by_what (Gets value) f nx ny =
          let h = has_held (nat_eq x.held value) x t f in absurd (nx (ap Some (sym (same_if x.held value h.0))))
      by_what (Swaps from to) f nx ny =
          let h = has_held (nat_eq x.held from) (holding to) t f in absurd (nx (ap Some (sym (same_if x.held from h.0))))
      by_what (Misses from) f nx ny =
          let h = has_not (nat_eq x.held from) x t f in
          let n : nat_eq y.held from ≡ false = differ y.held from (λ s. ny (ap Some (sym s))) in
          stays (Misses from) (ap (λ b. cond b None (Some y)) n) h.1
      by_what (Finds from found) f nx ny =
          let h = has_held (nat_eq x.held found && not (nat_eq from found)) x t f in
          absurd (nx (ap Some (sym (same_if x.held found (and_parts (nat_eq x.held found) (not (nat_eq from found)) h.0).0))))
      by_what (Tries from to) f nx ny =
          let m : nat_eq x.held from ≡ false = differ x.held from (λ s. nx (ap Some (sym s))) in
          let n : nat_eq y.held from ≡ false = differ y.held from (λ s. ny (ap Some (sym s))) in
          let g : Some x ≡ Some t = sym (ap (λ b. Some (cond b (holding to) x)) m) ∙ f in
          stays (Tries from to) (ap (λ b. Some (cond b (holding to) y)) n) (same_Some x t g)
      by_what (Refuses seen) f nx ny =
          let h = has_held (nat_eq x.held seen) x t f in absurd (nx (ap Some (sym (same_if x.held seen h.0))))

  made : (x y : Exchanging) (order : List ℕ) → AreUnasked x y → CanMake exchanging_after log x order →
      CanMake exchanging_after log y order
  made x y [] alike h = tt
  made x y (p ∷ rest) alike h =
      let s = step x y p h.0 h.2 h.1 h.3 alike in (h.0, s.0, h.2, s.1, made h.1 s.0 rest s.2 h.4)

  pub unasked : (one other : ℕ) (order : List ℕ) → IsUnasked log one → IsUnasked log other →
      IsLawfulOrder exchanging_after (holding one) log order → IsLawfulOrder exchanging_after (holding other) log order
  unasked one other order free too h = record {
    listing = h.listing;
    precedence = h.precedence;
    steps = made (holding one) (holding other) order (inr (free, too)) h.steps;
  }
