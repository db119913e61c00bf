-- One operation: what the history asks of it where it stands, and the step that the register makes.
use Rattle.std.proofs.Common.{◌≡◌, ℕ, zero, suc, ◌+◌, ◌-◌, ◌<◌, ◌≤◌, ◌&&◌, ◌||◌, Bool, true, false, cond, nat_eq, List, [], ◌∷◌}
use Rattle.std.proofs.Common.{length, take, slice_get, Option, None, Some, is_some, fold, refl, sym, ◌∙◌, ap, subst, arith}
use Rattle.std.proofs.lemmas.Bool.Decides.{nat_tests}
use Rattle.std.proofs.lemmas.Option.{same_Some, slice_get_within}
use Rattle.history_core.proofs.Counts.{count_cons}
use Rattle.history_core.specs.declared.history.Kind.{Kind}
use Rattle.history_core.specs.declared.history.Kind.TheVariants.{Write, Read, Refused}
use Rattle.history_core.specs.declared.history.Op.{Op}
use Rattle.history_core.specs.Orders.{is_write, is_write_at, KeepsLimit, latest, left_at, left_by, ListsPlaces, ReadsLatest}
use Rattle.history_core.specs.Orders.{ReadsRight, writes_in}
use Rattle.object_registers.specs.declared.limited.Limited.{Limited}
use Rattle.object_registers.specs.Registers.{limited_after}
use Rattle.objects_agree.specs.Agreement.{access_of}

-- what the register holds and what is due behind an operation
abbrev pub held_by : ℕ → Option ℕ → Kind → ℕ
held_by held None kind = held
held_by held (Some x) Write = x
held_by held (Some x) Read = held
held_by held (Some x) Refused = held

abbrev pub due_by : ℕ → Kind → ℕ
due_by due Write = due - 1
due_by due Read = due
due_by due Refused = due

-- what the history asks of it where this is held, and so many writes are due
abbrev pub Comes : ℕ → ℕ → Option ℕ → Kind → Type 0
Comes held due item kind = ReadsRight (λ x y. x ≡ y) kind item (Some held) × (kind ≡ Refused → due ≡ 0)

same_test : (m n : ℕ) → m ≡ n → nat_eq n m ≡ true
same_test m n e = grind (arith, nat_tests)

test_same : (m n : ℕ) → nat_eq n m ≡ true → m ≡ n
test_same m n e = grind (arith, nat_tests)

zero_test : (n : ℕ) → n ≡ 0 → nat_eq n 0 ≡ true
zero_test n e = grind (arith, nat_tests)

test_zero : (n : ℕ) → nat_eq n 0 ≡ true → n ≡ 0
test_zero n e = grind (arith, nat_tests)

both : (a b : Bool) → a ≡ true → b ≡ true → (a && b) ≡ true
both true b e f = f
both false b e f = cc

-- then the register makes its step
pub step_there : (opening held due : ℕ) (item : Option ℕ) (kind : Kind) → Comes held due item kind →
    limited_after (record { held = held; due = due }) (access_of opening item kind)
    ≡ Some (record { held = held_by held item kind; due = due_by due kind })
step_there opening held due None Write h = cc
step_there opening held due None Read h = absurd h.0
step_there opening held due None Refused h = absurd h.0
step_there opening held due (Some x) Write h = refl
step_there opening held due (Some x) Read h =
    let s : Limited = record { held = held; due = due } in
    let none : Option Limited = None in
    ap (λ b. cond b (Some s) none) (same_test x held h.0)
step_there opening held due (Some x) Refused h =
    let s : Limited = record { held = held; due = due } in
    let none : Option Limited = None in
    ap (λ b. cond b (Some s) none) (both (nat_eq held x) (nat_eq due 0) (same_test x held h.0) (zero_test due (h.1 refl)))

-- the fields of a state behind a step
abbrev pub Leaves : Limited → ℕ → ℕ → Type 0
Leaves t held due = (t.held ≡ held) × (t.due ≡ due)

pass_test : (b : Bool) (s t : Limited) → cond b (Some s) None ≡ Some t → b ≡ true
pass_test true s t e = refl
pass_test false s t e = cc

pass_state : (b : Bool) (s t : Limited) → cond b (Some s) None ≡ Some t → Leaves t s.held s.due
pass_state true s t e =
    let same : t ≡ s = sym (same_Some s t e) in (ap (λ (z : Limited). z.held) same, ap (λ (z : Limited). z.due) same)
pass_state false s t e = cc

left_part : (a b : Bool) → (a && b) ≡ true → a ≡ true
left_part true b e = refl
left_part false b e = cc

right_part : (a b : Bool) → (a && b) ≡ true → b ≡ true
right_part true b e = e
right_part false b e = cc

-- and where it makes one, the history asks no more, if there is a record
pub step_back : (opening : ℕ) (s t : Limited) (x : ℕ) (kind : Kind) → limited_after s (access_of opening (Some x) kind) ≡ Some t →
    Comes s.held s.due (Some x) kind × Leaves t (held_by s.held (Some x) kind) (due_by s.due kind)
step_back opening s t x Write e =
    let made : Limited = record { held = x; due = s.due - 1 } in
    let same : t ≡ made = sym (same_Some made t e) in
    ((refl, λ k. cc), (ap (λ (z : Limited). z.held) same, ap (λ (z : Limited). z.due) same))
step_back opening s t x Read e =
    ((test_same x s.held (pass_test (nat_eq s.held x) s t e), λ k. cc), pass_state (nat_eq s.held x) s t e)
step_back opening s t x Refused e =
    let b = pass_test (nat_eq s.held x && nat_eq s.due 0) s t e in
    let seen = left_part (nat_eq s.held x) (nat_eq s.due 0) b in
    let due = right_part (nat_eq s.held x) (nat_eq s.due 0) b in
    ((test_same x s.held seen, λ k. test_zero s.due due), pass_state (nat_eq s.held x && nat_eq s.due 0) s t e)

-- what can't stand in an order of the history leaves the state
pub step_idle : (opening : ℕ) (s t : Limited) (ends : Option ℕ) (item : Option ℕ) (kind : Kind) →
    limited_after s (access_of opening item kind) ≡ Some t → ((is_some ends || is_write kind) && is_some item) ≡ false →
    Leaves t s.held s.due
step_idle opening s t ends None kind e idle = pass_state (nat_eq s.held opening) s t e
step_idle opening s t None (Some x) Write e idle = cc
step_idle opening s t (Some end) (Some x) Write e idle = cc
step_idle opening s t ends (Some x) Read e idle = pass_state (nat_eq s.held x) s t e
step_idle opening s t ends (Some x) Refused e idle = pass_state (nat_eq s.held x && nat_eq s.due 0) s t e

-- the latest record behind it
left_held : (held due : ℕ) (item : Option ℕ) (kind : Kind) → Comes held due item kind →
    left_by (Some held) kind item ≡ Some (held_by held item kind)
left_held held due None Write h = cc
left_held held due None Read h = absurd h.0
left_held held due None Refused h = absurd h.0
left_held held due (Some x) Write h = refl
left_held held due (Some x) Read h = refl
left_held held due (Some x) Refused h = refl

-- the writes that are due, before it and behind it
due_before : (kind : Kind) (due n : ℕ) → due_by due kind ≤ n → due ≤ cond (is_write kind) 1 0 + n
due_before Write due n h = omega arith
due_before Read due n h = omega arith
due_before Refused due n h = omega arith

due_behind : (kind : Kind) (due n : ℕ) → due ≤ cond (is_write kind) 1 0 + n → due_by due kind ≤ n
due_behind Write due n h = omega arith
due_behind Read due n h = omega arith
due_behind Refused due n h = omega arith

got : {X : Type 0} (xs : List X) (i : ℕ) → i < length xs → (x : X) × (slice_get xs i ≡ Some x)
got [] i l = absurd (omega arith)
got (x ∷ xs) zero l = (x, refl)
got (x ∷ xs) (suc i) l = got xs i (omega arith)

module _ (ops : List (Op ℕ)) where
  -- an order that the history's rules of reading and of the limit allow where this is held, and so many writes are due
  pub record Follows (held due : ℕ) (order : List ℕ) : Type 0 where
    pub places : ListsPlaces ops order
    pub reading : ReadsLatest (λ x y. x ≡ y) held ops order
    pub limited : KeepsLimit (λ _. true) due ops order

  latest_next : (p : ℕ) (o : Op ℕ) → slice_get ops p ≡ Some o → (held due : ℕ) → Comes held due o.item o.kind → (front : List ℕ) →
      latest held ops (p ∷ front) ≡ latest (held_by held o.item o.kind) ops front
  latest_next p o at held due h front =
      ap (λ r. fold (λ z q. left_at z (slice_get ops q)) r front) (ap (left_at (Some held)) at ∙ left_held held due o.item o.kind h)

  writes_more : (p : ℕ) (o : Op ℕ) → slice_get ops p ≡ Some o → (front : List ℕ) →
      writes_in (λ _. true) ops (p ∷ front) ≡ cond (is_write o.kind) 1 0 + writes_in (λ _. true) ops front
  writes_more p o at front =
      count_cons (λ q. true && is_write_at (slice_get ops q)) p front
      ∙ ap (λ z. cond (true && is_write_at z) 1 0 + writes_in (λ _. true) ops front) at

  -- one more operation in front
  pub follows_more : (p : ℕ) (o : Op ℕ) → slice_get ops p ≡ Some o → (rest : List ℕ) (held due : ℕ) → Comes held due o.item o.kind →
      Follows (held_by held o.item o.kind) (due_by due o.kind) rest → Follows held due (p ∷ rest)
  follows_more p o at rest held due h f = record { places = places; reading = reading; limited = limited }
    where
      places : ListsPlaces ops (p ∷ rest)
      places zero q e = let P : ℕ → Type 0 = λ z. z < length ops in subst P (same_Some p q e) (slice_get_within ops p o at)
      places (suc i) q e = f.places i q e

      reading : ReadsLatest (λ x y. x ≡ y) held ops (p ∷ rest)
      reading zero a e =
          let P : Op ℕ → Type 0 = λ z. ReadsRight (λ x y. x ≡ y) z.kind z.item (Some held) in
          subst P (same_Some o a (sym at ∙ e)) h.0
      reading (suc i) a e =
          let P : Option ℕ → Type 0 = λ z. ReadsRight (λ x y. x ≡ y) a.kind a.item z in
          subst P (sym (latest_next p o at held due h (take i rest))) (f.reading i a e)

      limited : KeepsLimit (λ _. true) due ops (p ∷ rest)
      limited zero q a e g r w =
          let same : o ≡ a = same_Some o a (sym at ∙ ap (slice_get ops) (same_Some p q e) ∙ g) in
          let z : due ≡ 0 = h.1 (ap (λ (z : Op ℕ). z.kind) same ∙ r) in
          omega (arith, z)
      limited (suc i) q a e g r w =
          let le = due_before o.kind due (writes_in (λ _. true) ops (take i rest)) (f.limited i q a e g r w) in
          let P : ℕ → Type 0 = λ z. due ≤ z in
          subst P (sym (writes_more p o at (take i rest))) le

  -- and without the first one
  pub follows_first : (p : ℕ) (rest : List ℕ) (held due : ℕ) → Follows held due (p ∷ rest) →
      (o : Op ℕ) × (slice_get ops p ≡ Some o) × Comes held due o.item o.kind
      × Follows (held_by held o.item o.kind) (due_by due o.kind) rest
  follows_first p rest held due f = (o, at, comes, record { places = places; reading = reading; limited = limited })
    where
      found : (a : Op ℕ) × (slice_get ops p ≡ Some a)
      found = got ops p (f.places 0 p refl)

      o : Op ℕ
      o = found.0

      at : slice_get ops p ≡ Some o
      at = found.1

      comes : Comes held due o.item o.kind
      comes = (f.reading 0 o at, λ r. (let le : due ≤ 0 = f.limited 0 p o refl at r refl in omega (arith, le)))

      places : ListsPlaces ops rest
      places i q e = f.places (suc i) q e

      reading : ReadsLatest (λ x y. x ≡ y) (held_by held o.item o.kind) ops rest
      reading i a e =
          let P : Option ℕ → Type 0 = λ z. ReadsRight (λ x y. x ≡ y) a.kind a.item z in
          subst P (latest_next p o at held due comes (take i rest)) (f.reading (suc i) a e)

      limited : KeepsLimit (λ _. true) (due_by due o.kind) ops rest
      limited i q a e g r w =
          let P : ℕ → Type 0 = λ z. due ≤ z in
          due_behind o.kind due (writes_in (λ _. true) ops (take i rest))
          (subst P (writes_more p o at (take i rest)) (f.limited (suc i) q a e g r w))
