-- Where a test of the state changes along an order, and what that says of two registers.
use Rattle.std.proofs.Common.{◌≡◌, ◌≢◌, ℕ, ◌+◌, ◌-◌, ◌<◌, ◌≤◌, ◌&&◌, not, Bool, true, false, cond, nat_eq, List, [], ◌∷◌, slice_get}
use Rattle.std.proofs.Common.{Option, None, Some, refl, sym, ◌∙◌, ap, subst, arith, ◌⊎◌, inl, inr}
use Rattle.std.proofs.lemmas.Bool.{cases_lt}
use Rattle.std.proofs.lemmas.Bool.Decides.{nat_tests}
use Rattle.std.proofs.lemmas.Option.{same_Some}
use Rattle.history_core.proofs.Listing.{times_cons}
use Rattle.history_core.specs.Orders.{times_of}
use Rattle.object_core.specs.declared.operation.Operation.{Operation}
use Rattle.object_core.specs.Logs.{CanMake, IsLinearizable, is_due, KeepsPrecedence, MayStand, Precedes}
use Rattle.object_registers.specs.declared.exchanging.Exchange.{Exchange}
use Rattle.object_registers.specs.declared.exchanging.Exchange.TheVariants.{Sets, Gets, Swaps, Misses, Finds, Tries, Refuses}
use Rattle.object_registers.specs.declared.exchanging.Exchanging.{Exchanging}
use Rattle.object_registers.specs.declared.limited.Access.{Access}
use Rattle.object_registers.specs.declared.limited.Access.TheVariants.{Writes, Reads, IsRefused}
use Rattle.object_registers.specs.declared.limited.Limited.{Limited}
use Rattle.object_registers.specs.Registers.{exchanging_after, found_by, IsWriteFor, limited_after, Makes}

-- an entry more in front adds to how often its own place stands, and to no other
pub times_here : (p : ℕ) (rest : List ℕ) → times_of p (p ∷ rest) ≡ 1 + times_of p rest
times_here p rest =
    let t : nat_eq p p ≡ true = grind (arith, nat_tests) in
    times_cons p p rest ∙ ap (λ b. cond b 1 0 + times_of p rest) t

pub times_there : (p x : ℕ) (rest : List ℕ) → x ≢ p → times_of p (x ∷ rest) ≡ times_of p rest
times_there p x rest ne =
    let f : nat_eq x p ≡ false = grind (arith, nat_tests) in
    times_cons p x rest ∙ ap (λ b. cond b 1 0 + times_of p rest) f ∙ omega arith

-- how often a place stands isn't less with an entry more
pub times_more : (p x : ℕ) (rest : List ℕ) → times_of p rest ≤ times_of p (x ∷ rest)
times_more p x rest = let e = times_cons p x rest in omega arith

-- what is sure to have taken effect stands in the order
pub stands : (due : Bool) (times : ℕ) → due ≡ true → MayStand due times → 0 < times
stands true times e h = omega arith
stands false times e h = cc

-- nothing stands twice
pub once : (due : Bool) (times : ℕ) → MayStand due times → times ≤ 1
once true times h = omega arith
once false times h = h

module _ {S W : Type 0} (after : S → W → Option S) (log : List (Operation W)) where
  -- an operation that may stand only where a test holds: something didn't begin after it, and made the test hold
  pub record Turn (test : S → Bool) (order : List ℕ) (o : Operation W) : Type 0 where
    pub place : ℕ
    pub by : Operation W
    pub old : S
    pub new : S
    pub stood : 0 < times_of place order
    pub at : slice_get log place ≡ Some by
    pub free : ¬ Precedes o by
    pub step : after old by.what ≡ Some new
    pub before : test old ≡ false
    pub behind : test new ≡ true

  pub turned : (test : S → Bool) (p : ℕ) (o : Operation W) → slice_get log p ≡ Some o →
      ((s t : S) → after s o.what ≡ Some t → test s ≡ true) → (order : List ℕ) (s : S) → KeepsPrecedence log order →
      CanMake after log s order → 0 < times_of p order → test s ≡ false → Turn test order o
  turned test p o at only [] s kept steps stood not_yet = let z : times_of p [] ≡ 0 = refl in absurd (omega arith)
  turned test p o at only (x ∷ rest) s kept steps stood not_yet =
      by_test (test steps.1) refl (λ later e. turned test p o at only rest steps.1 kept.1 steps.4 later e)
    where
      here : x ≡ p → ⊥
      here e =
          let f : slice_get log p ≡ Some steps.0 = subst (λ z. slice_get log z ≡ Some steps.0) e steps.2 in
          let same : steps.0 ≡ o = same_Some steps.0 o (sym f ∙ at) in
          let P : Operation W → Type 0 = λ z. after s z.what ≡ Some steps.1 in
          let t : test s ≡ true = only s steps.1 (subst P same steps.3) in
          cc

      more : Turn test rest o → Turn test (x ∷ rest) o
      more r = record {
        place = r.place;
        by = r.by;
        old = r.old;
        new = r.new;
        stood = (let le = times_more r.place x rest in let l = r.stood in omega arith);
        at = r.at;
        free = r.free;
        step = r.step;
        before = r.before;
        behind = r.behind;
      }

      behind : x ≢ p → 0 < times_of p rest
      behind ne = let e = times_there p x rest ne in omega arith

      by_test : (b : Bool) → test steps.1 ≡ b → (0 < times_of p rest → test steps.1 ≡ false → Turn test rest o) → Turn test (x ∷ rest) o
      by_test true e again = record {
        place = x;
        by = steps.0;
        old = s;
        new = steps.1;
        stood = (let h = times_here x rest in omega arith);
        at = steps.2;
        free = kept.0 p o steps.0 (behind here) at steps.2;
        step = steps.3;
        before = not_yet;
        behind = e;
      }
      by_test false e again = more (again (behind here) e)

-- what may be refused, or is about to be
abbrev no_write_due : Limited → Bool
no_write_due s = nat_eq s.due 0

refusable : (s t : Limited) (value : ℕ) → limited_after s (IsRefused value) ≡ Some t → nat_eq s.due 0 ≡ true
refusable s t value e = by_tests (nat_eq s.held value) (nat_eq s.due 0) e
  where
    by_tests : (a b : Bool) → cond (a && b) (Some s) None ≡ Some t → b ≡ true
    by_tests true true e = refl
    by_tests true false e = cc
    by_tests false b e = cc

-- what lowers the number that is due is a write, and lowers it by one
pub record IsWriteStep (s t : Limited) (what : Access) : Type 0 where
  pub value : ℕ
  pub is : what ≡ Writes value
  pub due : t.due ≡ s.due - 1

lowers : (s t : Limited) (what : Access) → limited_after s what ≡ Some t → t.due ≢ s.due → IsWriteStep s t what
lowers s t (Writes value) e ne =
    record { value = value; is = refl; due = sym (ap (λ (z : Limited). z.due) (same_Some (record { held = value; due = s.due - 1 }) t e)) }
lowers s t (Reads value) e ne = absurd (ne (by_test (nat_eq s.held value) e))
  where
    by_test : (b : Bool) → cond b (Some s) None ≡ Some t → t.due ≡ s.due
    by_test true e = sym (ap (λ (z : Limited). z.due) (same_Some s t e))
    by_test false e = cc
lowers s t (IsRefused value) e ne = absurd (ne (by_test (nat_eq s.held value && nat_eq s.due 0) e))
  where
    by_test : (b : Bool) → cond b (Some s) None ≡ Some t → t.due ≡ s.due
    by_test true e = sym (ap (λ (z : Limited). z.due) (same_Some s t e))
    by_test false e = cc

-- two writes before a refused one, where two were due
abbrev pub AreTwo : Operation Access → List (Operation Access) → Type 0
AreTwo o log = (q r : ℕ) × (q ≢ r) × IsWriteFor o log q × IsWriteFor o log r

two : (log : List (Operation Access)) (p value : ℕ) (o : Operation Access) → slice_get log p ≡ Some o → o.what ≡ IsRefused value →
    (order : List ℕ) (s : Limited) → KeepsPrecedence log order → CanMake limited_after log s order →
    ((q : ℕ) (a : Operation Access) → slice_get log q ≡ Some a → times_of q order ≤ 1) → 0 < times_of p order → 2 ≤ s.due → AreTwo o log
two log p value o at is [] s kept steps most stood many = let z : times_of p [] ≡ 0 = refl in absurd (omega arith)
two log p value o at is (x ∷ rest) s kept steps most stood many =
    by_due (cases_lt 1 steps.1.due) (λ later more.
    two log p value o at is rest steps.1 kept.1 steps.4 (λ q a e. (let l = most q a e in
    let m = times_more q x rest in omega arith)) later more)
  where
    only : (u t : Limited) → limited_after u o.what ≡ Some t → nat_eq u.due 0 ≡ true
    only u t e = refusable u t value (subst (λ w. limited_after u w ≡ Some t) is e)

    there : x ≢ p
    there e =
        let f : slice_get log p ≡ Some steps.0 = subst (λ z. slice_get log z ≡ Some steps.0) e steps.2 in
        let same : steps.0 ≡ o = same_Some steps.0 o (sym f ∙ at) in
        let P : Operation Access → Type 0 = λ z. limited_after s z.what ≡ Some steps.1 in
        let t : nat_eq s.due 0 ≡ true = only s steps.1 (subst P same steps.3) in
        grind (arith, nat_tests)

    later : 0 < times_of p rest
    later = let e = times_there p x rest there in omega arith

    turn : steps.1.due ≤ 1 → AreTwo o log
    turn few =
        let w = lowers s steps.1 steps.0.what steps.3 (λ e. omega arith) in
        let due : steps.1.due ≡ s.due - 1 = w.due in
        let not_yet : nat_eq steps.1.due 0 ≡ false = grind (arith, nat_tests) in
        let r = turned limited_after log no_write_due p o at only rest steps.1 kept.1 steps.4 later not_yet in
        let before : nat_eq r.old.due 0 ≡ false = r.before in
        let behind : nat_eq r.new.due 0 ≡ true = r.behind in
        let v = lowers r.old r.new r.by.what r.step (λ e. grind (arith, nat_tests)) in
        let ne : x ≢ r.place = λ e. apart r.place e r.stood in
        (x, r.place, ne, (steps.0, w.value, steps.2, kept.0 p o steps.0 later at steps.2, w.is), (r.by, v.value, r.at, r.free, v.is))
      where
        apart : (q : ℕ) → x ≡ q → 0 < times_of q rest → ⊥
        apart q e l =
            let m : 0 < times_of x rest = subst (λ z. 0 < times_of z rest) (sym e) l in
            let n : times_of x (x ∷ rest) ≤ 1 = most x steps.0 steps.2 in
            let h = times_here x rest in
            omega arith

    by_due : (1 < steps.1.due) ⊎ (steps.1.due ≤ 1) → (0 < times_of p rest → 2 ≤ steps.1.due → AreTwo o log) → AreTwo o log
    by_due (inl more) again = again later (omega arith)
    by_due (inr few) again = turn few

pub refused_two : (opening : Limited) (log : List (Operation Access)) (p value : ℕ) (o : Operation Access) →
    IsLinearizable limited_after opening log → slice_get log p ≡ Some o → is_due o ≡ true → o.what ≡ IsRefused value → 2 ≤ opening.due →
    AreTwo o log
refused_two opening log p value o lawful at due is many =
    let h = lawful.1 in
    two log p value o at is lawful.0 opening h.precedence h.steps (λ q a e. once (is_due a) _ (h.listing q a e))
    (stands (is_due o) _ due (h.listing p o at)) many

equal_held : (m n : ℕ) → nat_eq m n ≡ true → m ≡ n
equal_held m n e = grind (arith, nat_tests)

-- what looks at a record leaves it
only_looks : (s t : Exchanging) (value seen : ℕ) → cond (nat_eq s.held seen) (Some s) None ≡ Some t → s.held ≢ value → t.held ≡ value → ⊥
only_looks s t value seen e ne is = by_test (nat_eq s.held seen) e
  where
    by_test : (b : Bool) → cond b (Some s) None ≡ Some t → ⊥
    by_test true f = ne (ap (λ (z : Exchanging). z.held) (same_Some s t f) ∙ is)
    by_test false f = cc

-- what leaves a record where another one was
made : (s t : Exchanging) (value : ℕ) (what : Exchange) → exchanging_after s what ≡ Some t → s.held ≢ value → t.held ≡ value →
    Makes value what
made s t value (Sets to) e ne is = ap (λ (z : Exchanging). z.held) (same_Some (record { held = to }) t e) ∙ is
made s t value (Gets seen) e ne is = only_looks s t value seen e ne is
made s t value (Swaps from to) e ne is = by_test (nat_eq s.held from) refl e
  where
    by_test : (b : Bool) → nat_eq s.held from ≡ b → cond b (Some (record { held = to })) None ≡ Some t → (to ≡ value) × (from ≢ value)
    by_test true g f = (
      ap (λ (z : Exchanging). z.held) (same_Some (record { held = to }) t f) ∙ is,
      λ h. ne (equal_held s.held from g ∙ h),
    )
    by_test false g f = cc
made s t value (Misses from) e ne is = by_test (nat_eq s.held from) e
  where
    by_test : (b : Bool) → cond b None (Some s) ≡ Some t → ⊥
    by_test true f = cc
    by_test false f = ne (ap (λ (z : Exchanging). z.held) (same_Some s t f) ∙ is)
made s t value (Finds from found) e ne is = by_test (nat_eq s.held found && not (nat_eq from found)) e
  where
    by_test : (b : Bool) → cond b (Some s) None ≡ Some t → ⊥
    by_test true f = ne (ap (λ (z : Exchanging). z.held) (same_Some s t f) ∙ is)
    by_test false f = cc
made s t value (Tries from to) e ne is = by_test (nat_eq s.held from) refl e
  where
    by_test : (b : Bool) → nat_eq s.held from ≡ b → Some (cond b (record { held = to }) s) ≡ Some t → (to ≡ value) × (from ≢ value)
    by_test true g f = (
      ap (λ (z : Exchanging). z.held) (same_Some (record { held = to }) t f) ∙ is,
      λ h. ne (equal_held s.held from g ∙ h),
    )
    by_test false g f = absurd (ne (ap (λ (z : Exchanging). z.held) (same_Some s t f) ∙ is))
made s t value (Refuses seen) e ne is = only_looks s t value seen e ne is

-- whoever found a record finds it held
found_held : (s t : Exchanging) (value seen : ℕ) → Some seen ≡ Some value → cond (nat_eq s.held seen) (Some s) None ≡ Some t →
    nat_eq s.held value ≡ true
found_held s t value seen is e = by_test (nat_eq s.held seen) refl e
  where
    by_test : (b : Bool) → nat_eq s.held seen ≡ b → cond b (Some s) None ≡ Some t → nat_eq s.held value ≡ true
    by_test true h f = ap (λ z. nat_eq s.held z) (sym (same_Some seen value is)) ∙ h
    by_test false h f = cc

finds : (s t : Exchanging) (value : ℕ) (what : Exchange) → found_by what ≡ Some value → exchanging_after s what ≡ Some t →
    nat_eq s.held value ≡ true
finds s t value (Sets to) is e = cc
finds s t value (Gets seen) is e = found_held s t value seen is e
finds s t value (Swaps from to) is e = by_test (nat_eq s.held from) refl e
  where
    by_test : (b : Bool) → nat_eq s.held from ≡ b → cond b (Some (record { held = to })) None ≡ Some t → nat_eq s.held value ≡ true
    by_test true h f = ap (λ z. nat_eq s.held z) (sym (same_Some from value is)) ∙ h
    by_test false h f = cc
finds s t value (Misses from) is e = cc
finds s t value (Finds from found) is e = by_tests (nat_eq s.held found) (not (nat_eq from found)) refl e
  where
    by_tests : (a b : Bool) → nat_eq s.held found ≡ a → cond (a && b) (Some s) None ≡ Some t → nat_eq s.held value ≡ true
    by_tests true b h f = ap (λ z. nat_eq s.held z) (sym (same_Some found value is)) ∙ h
    by_tests false b h f = cc
finds s t value (Tries from to) is e = cc
finds s t value (Refuses seen) is e = found_held s t value seen is e

pub found_made : (opening : Exchanging) (log : List (Operation Exchange)) (p value : ℕ) (o : Operation Exchange) →
    IsLinearizable exchanging_after opening log → slice_get log p ≡ Some o → is_due o ≡ true → found_by o.what ≡ Some value →
    value ≢ opening.held →
    (q : ℕ) × (a : Operation Exchange) × (slice_get log q ≡ Some a) × (¬ Precedes o a) × Makes value a.what
found_made opening log p value o lawful at due is other =
    let h = lawful.1 in
    let test : Exchanging → Bool = λ s. nat_eq s.held value in
    let not_yet : nat_eq opening.held value ≡ false = test_fails opening.held value (λ e. other (sym e)) in
    let stood = stands (is_due o) _ due (h.listing p o at) in
    let r = turned exchanging_after log test p o at only lawful.0 opening h.precedence h.steps stood not_yet in
    let other_before = unequal r.old.held value r.before in
    (r.place, r.by, r.at, r.free, made r.old r.new value r.by.what r.step other_before (equal r.new.held value r.behind))
  where
    test_fails : (m n : ℕ) → m ≢ n → nat_eq m n ≡ false
    test_fails m n ne = grind (arith, nat_tests)

    equal : (m n : ℕ) → nat_eq m n ≡ true → m ≡ n
    equal m n e = grind (arith, nat_tests)

    unequal : (m n : ℕ) → nat_eq m n ≡ false → m ≢ n
    unequal m n e f = grind (arith, nat_tests)

    only : (s t : Exchanging) → exchanging_after s o.what ≡ Some t → nat_eq s.held value ≡ true
    only s t e = finds s t value o.what is e
