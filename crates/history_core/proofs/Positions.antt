-- The positions of an actor's steps: each is that of a step of this actor, so they rise; and one more step adds its own
-- position, or none where it is another actor's.
use Rattle.std.proofs.Common.{◌≡◌, ◌≢◌, ℕ, ◌+◌, ◌<◌, ◌≤◌, Bool, true, false, cond, nat_eq, List, [], ◌∷◌, ◌++◌, length, take, slice_get}
use Rattle.std.proofs.Common.{Option, None, Some, zero, suc, ◌⊎◌, inl, inr, refl, sym, subst, ◌∙◌, ap, arith, append-nil}
use Rattle.std.specs.Prelude.{if◌then◌else◌}
use Rattle.std.proofs.lemmas.Bool.{cases_Bool, cases_lt, cases_order, cases_eq}
use Rattle.std.proofs.lemmas.Bool.Decides.{nat_tests}
use Rattle.std.proofs.lemmas.List.{take-take}
use Rattle.std.proofs.lemmas.List.Sums.{sum_by-cons, sum_by-append, sum_by-take-le}
use Rattle.std.proofs.lemmas.Option.{same_Some, slice_get_cases, slice_get_past, slice_get_within}
use Rattle.history_core.specs.Schedules.{positions, steps_of}
use Rattle.history_core.proofs.Places.{get_pushed, get_last}

same : (n : ℕ) → nat_eq n n ≡ true
same n = grind (arith, nat_tests)

differ : (m n : ℕ) → m ≢ n → nat_eq m n ≡ false
differ m n ne = grind (arith, nat_tests)

-- one more step of the actor
pub steps_mine : (who : ℕ) (done : List ℕ) → steps_of who (done ++ who ∷ []) ≡ steps_of who done + 1
steps_mine who done =
    sum_by-append (λ s. cond (nat_eq s who) 1 0) done (who ∷ []) ∙ ap (λ b. steps_of who done + (0 + cond b 1 0)) (same who) ∙ omega arith

-- one more step of another
pub steps_other : (who s : ℕ) (done : List ℕ) → s ≢ who → steps_of who (done ++ s ∷ []) ≡ steps_of who done
steps_other who s done ne = sum_by-append (λ s. cond (nat_eq s who) 1 0) done (s ∷ [])
    ∙ ap (λ b. steps_of who done + (0 + cond b 1 0)) (differ s who ne) ∙ omega arith

pub positions_join : (at who : ℕ) (xs ys : List ℕ) → positions at who (xs ++ ys) ≡ positions at who xs ++ positions (at + length xs) who ys
positions_join at who [] ys = ap (λ n. positions n who ys) (omega arith)
positions_join at who (x ∷ xs) ys =
    let rest : positions (at + 1) who (xs ++ ys) ≡ positions (at + 1) who xs ++ positions (at + suc (length xs)) who ys =
    positions_join (at + 1) who xs ys ∙ ap (λ n. positions (at + 1) who xs ++ positions n who ys) (omega arith) in
    elim (nat_eq x who) as (λ b. (if b then at ∷ positions (at + 1) who (xs ++ ys) else positions (at + 1) who (xs ++ ys))
    ≡ (if b then at ∷ positions (at + 1) who xs else positions (at + 1) who xs) ++ positions (at + suc (length xs)) who ys) [
      | true ↦ ap (λ zs. at ∷ zs) rest
      | false ↦ rest
    ]

pub positions_mine : (at who : ℕ) (done : List ℕ) → positions at who (done ++ who ∷ []) ≡ positions at who done ++ (at + length done) ∷ []
positions_mine at who done =
    positions_join at who done (who ∷ []) ∙ ap (λ b. positions at who done ++ (if b then (at + length done) ∷ [] else [])) (same who)

pub positions_other : (at who s : ℕ) (done : List ℕ) → s ≢ who → positions at who (done ++ s ∷ []) ≡ positions at who done
positions_other at who s done ne = positions_join at who done (s ∷ [])
    ∙ ap (λ b. positions at who done ++ (if b then (at + length done) ∷ [] else [])) (differ s who ne) ∙ append-nil (positions at who done)

pub positions_length : (at who : ℕ) (steps : List ℕ) → length (positions at who steps) ≡ steps_of who steps
positions_length at who [] = refl
positions_length at who (x ∷ xs) =
    let rest : length (positions (at + 1) who xs) ≡ steps_of who xs = positions_length (at + 1) who xs in
    let here : length (if nat_eq x who then at ∷ positions (at + 1) who xs else positions (at + 1) who xs)
    ≡ cond (nat_eq x who) 1 0 + steps_of who xs =
    elim (nat_eq x who) as (λ b. length (if b then at ∷ positions (at + 1) who xs else positions (at + 1) who xs)
    ≡ cond b 1 0 + steps_of who xs) [ true ↦ omega arith | false ↦ omega arith ] in
    here ∙ sym (sum_by-cons (λ s. cond (nat_eq s who) 1 0) x xs)

-- the position p is that of the actor's step number i, the step at this place of the list
pub record IsStepOf (at who : ℕ) (steps : List ℕ) (i p : ℕ) : Type 0 where
  pub place : ℕ
  pub is : p ≡ at + place
  pub actor : slice_get steps place ≡ Some who
  pub before : steps_of who (take place steps) ≡ i

-- a step of the list is one of the longer list
step_later : (at who x : ℕ) (xs : List ℕ) (b : Bool) (i p : ℕ) → nat_eq x who ≡ b → IsStepOf (at + 1) who xs i p →
    IsStepOf at who (x ∷ xs) (cond b 1 0 + i) p
step_later at who x xs b i p t w = record {
  place = suc w.place;
  is = omega (arith, w.is);
  actor = w.actor;
  before = sum_by-cons (λ s. cond (nat_eq s who) 1 0) x (take w.place xs) ∙ ap (λ c. cond c 1 0 + steps_of who (take w.place xs)) t
      ∙ ap (λ n. cond b 1 0 + n) w.before;
}

step_first : (at who x : ℕ) (xs : List ℕ) (i p : ℕ) → nat_eq x who ≡ true →
    ((j : ℕ) → slice_get (positions (at + 1) who xs) j ≡ Some p → IsStepOf (at + 1) who xs j p) →
    slice_get (at ∷ positions (at + 1) who xs) i ≡ Some p → IsStepOf at who (x ∷ xs) i p
step_first at who x xs zero p t later e = record {
  place = 0;
  is = let s : at ≡ p = same_Some at p e in omega arith;
  actor = let s : x ≡ who = grind (arith, nat_tests) in ap Some s;
  before = refl;
}
step_first at who x xs (suc i) p t later e =
    subst (λ n. IsStepOf at who (x ∷ xs) n p) (omega arith) (step_later at who x xs true i p t (later i e))

-- each position of an actor is that of a step of this actor
pub position_step : (at who : ℕ) (steps : List ℕ) (i p : ℕ) → slice_get (positions at who steps) i ≡ Some p → IsStepOf at who steps i p
position_step at who [] i p h = cc
position_step at who (x ∷ xs) i p h =
    let P : Bool → ℕ → Option ℕ = λ b j. slice_get (if b then at ∷ positions (at + 1) who xs else positions (at + 1) who xs) j in
    let later : (j : ℕ) → slice_get (positions (at + 1) who xs) j ≡ Some p → IsStepOf (at + 1) who xs j p =
    λ j e. position_step (at + 1) who xs j p e in
    elim (cases_Bool (nat_eq x who)) [
      | inl t ↦ step_first at who x xs i p t later (sym (ap (λ b. P b i) t) ∙ h)
      | inr f ↦ subst (λ n. IsStepOf at who (x ∷ xs) n p) (omega arith)
          (step_later at who x xs false i p f (later i (sym (ap (λ b. P b i) f) ∙ h)))
    ]

-- and each step of an actor has its position
pub step_position : (at who : ℕ) (steps : List ℕ) (n : ℕ) → slice_get steps n ≡ Some who →
    slice_get (positions at who steps) (steps_of who (take n steps)) ≡ Some (at + n)
step_position at who [] n h = cc
step_position at who (x ∷ xs) zero h =
    let t : nat_eq x who ≡ true = let s : x ≡ who = same_Some x who h in grind (arith, nat_tests) in
    ap (λ b. slice_get (if b then at ∷ positions (at + 1) who xs else positions (at + 1) who xs) 0) t ∙ ap Some (omega arith)
step_position at who (x ∷ xs) (suc n) h =
    let rest : slice_get (positions (at + 1) who xs) (steps_of who (take n xs)) ≡ Some (at + suc n) =
    step_position (at + 1) who xs n h ∙ ap Some (omega arith) in
    ap (slice_get (positions at who (x ∷ xs))) (sum_by-cons (λ s. cond (nat_eq s who) 1 0) x (take n xs))
    ∙ elim (nat_eq x who) as (λ b. slice_get (if b then at ∷ positions (at + 1) who xs else positions (at + 1) who xs)
    (cond b 1 0 + steps_of who (take n xs)) ≡ Some (at + suc n)) [
      | true ↦ ap (slice_get (at ∷ positions (at + 1) who xs))
          (let e : 1 + steps_of who (take n xs) ≡ suc (steps_of who (take n xs)) = omega arith in
          e) ∙ rest
      | false ↦ ap (slice_get (positions (at + 1) who xs)) (let e : 0 + steps_of who (take n xs) ≡ steps_of who (take n xs) = omega arith in
          e) ∙ rest
    ]

pub position_least : (at who : ℕ) (steps : List ℕ) (i p : ℕ) → slice_get (positions at who steps) i ≡ Some p → at ≤ p
position_least at who steps i p h = let w = position_step at who steps i p h in omega (arith, w.is)

pub position_below : (at who : ℕ) (steps : List ℕ) (i p : ℕ) → slice_get (positions at who steps) i ≡ Some p → p < at + length steps
position_below at who steps i p h =
    let w = position_step at who steps i p h in
    omega (arith, w.is, slice_get_within steps w.place who w.actor)

steps_grow : (who : ℕ) (steps : List ℕ) (m n : ℕ) → m ≤ n → steps_of who (take m steps) ≤ steps_of who (take n steps)
steps_grow who steps m n le =
    let e : steps_of who (take m (take n steps)) ≡ steps_of who (take m steps) = ap (steps_of who) (take-take m n steps le) in
    let h : steps_of who (take m (take n steps)) ≤ steps_of who (take n steps) =
    sum_by-take-le (λ s. cond (nat_eq s who) 1 0) (take n steps) m in
    omega arith

-- an actor's positions rise
pub positions_rise : (at who : ℕ) (steps : List ℕ) (i j p q : ℕ) → slice_get (positions at who steps) i ≡ Some p →
    slice_get (positions at who steps) j ≡ Some q → i < j → p < q
positions_rise at who steps i j p q h k lt =
    let v = position_step at who steps i p h in
    let w = position_step at who steps j q k in
    elim (cases_lt p q) [
      | inl l ↦ l
      | inr le ↦
          let g = steps_grow who steps w.place v.place (omega (arith, v.is, w.is)) in
          omega (arith, v.before, w.before)
    ]

-- so a greater position is a later step
pub positions_order : (at who : ℕ) (steps : List ℕ) (i j p q : ℕ) → slice_get (positions at who steps) i ≡ Some p →
    slice_get (positions at who steps) j ≡ Some q → p < q → i < j
positions_order at who steps i j p q h k lt =
    let v = position_step at who steps i p h in
    let w = position_step at who steps j q k in
    elim (cases_lt i j) [
      | inl l ↦ l
      | inr le ↦ elim (cases_eq i j) [
        | inl e ↦ let s : p ≡ q = same_Some p q (sym h ∙ ap (slice_get (positions at who steps)) e ∙ k) in omega arith
        | inr ne ↦ let back : q < p = positions_rise at who steps j i q p k h (omega arith) in omega arith
      ]
    ]

-- and a position is that of one step only, of one actor
pub position_once : (at who : ℕ) (steps : List ℕ) (i j p : ℕ) → slice_get (positions at who steps) i ≡ Some p →
    slice_get (positions at who steps) j ≡ Some p → i ≡ j
position_once at who steps i j p h k = elim (cases_order i j) [
  | inl e ↦ e
  | inr (inl l) ↦ let r : p < p = positions_rise at who steps i j p p h k l in omega arith
  | inr (inr l) ↦ let r : p < p = positions_rise at who steps j i p p k h l in omega arith
]

pub position_actor : (at a b : ℕ) (steps : List ℕ) (i j p : ℕ) → slice_get (positions at a steps) i ≡ Some p →
    slice_get (positions at b steps) j ≡ Some p → a ≡ b
position_actor at a b steps i j p h k =
    let v = position_step at a steps i p h in
    let w = position_step at b steps j p k in
    let e : v.place ≡ w.place = omega (arith, v.is, w.is) in
    same_Some a b (sym v.actor ∙ ap (slice_get steps) e ∙ w.actor)

-- an actor has the positions up to the number of its steps
pub position_made : (at who : ℕ) (steps : List ℕ) (i p : ℕ) → slice_get (positions at who steps) i ≡ Some p → i < steps_of who steps
position_made at who steps i p h = omega (arith, slice_get_within (positions at who steps) i p h, positions_length at who steps)

pub position_missing : (at who : ℕ) (steps : List ℕ) (i : ℕ) → steps_of who steps ≤ i → slice_get (positions at who steps) i ≡ None
position_missing at who steps i le = slice_get_past (positions at who steps) i (omega (arith, positions_length at who steps))

pub missing_position : (at who : ℕ) (steps : List ℕ) (i : ℕ) → slice_get (positions at who steps) i ≡ None → steps_of who steps ≤ i
missing_position at who steps i h = elim (slice_get_cases (positions at who steps) i).1 [
  | inl w ↦ let e = w.2 in cc
  | inr w ↦ omega (arith, w.0, positions_length at who steps)
]

pub position_exists : (at who : ℕ) (steps : List ℕ) (i : ℕ) → i < steps_of who steps →
    (p : ℕ) × (slice_get (positions at who steps) i ≡ Some p)
position_exists at who steps i l = elim (slice_get_cases (positions at who steps) i).1 [
  | inl w ↦ (w.0, w.2)
  | inr w ↦ absurd (omega (arith, w.0, positions_length at who steps))
]

-- one step more: the actor's next position is its own, and no other changes
pub position_new : (at who : ℕ) (done : List ℕ) (i : ℕ) → i ≡ steps_of who done →
    slice_get (positions at who (done ++ who ∷ [])) i ≡ Some (at + length done)
position_new at who done i e =
    ap (λ ps. slice_get ps i) (positions_mine at who done)
    ∙ get_last (positions at who done) (at + length done) i (omega (arith, positions_length at who done))

pub position_same : (at who s : ℕ) (done : List ℕ) (i : ℕ) → (s ≡ who → i ≢ steps_of who done) →
    slice_get (positions at who (done ++ s ∷ [])) i ≡ slice_get (positions at who done) i
position_same at who s done i ne = elim (cases_eq s who) [
  | inl e ↦
      let n : i ≢ length (positions at who done) = λ l. ne e (l ∙ positions_length at who done) in
      ap (λ z. slice_get (positions at who (done ++ z ∷ [])) i) e ∙ ap (λ ps. slice_get ps i) (positions_mine at who done)
      ∙ get_pushed (positions at who done) (at + length done) i n
  | inr d ↦ ap (λ ps. slice_get ps i) (positions_other at who s done d)
]

pub position_stays : (at who s : ℕ) (done : List ℕ) (i p : ℕ) → slice_get (positions at who done) i ≡ Some p →
    slice_get (positions at who (done ++ s ∷ [])) i ≡ Some p
position_stays at who s done i p h = position_same at who s done i (λ e l. let m = position_made at who done i p h in omega arith) ∙ h

-- a position after one step more stood before, or is the new step's
pub position_cases : (at who s : ℕ) (done : List ℕ) (i p : ℕ) → slice_get (positions at who (done ++ s ∷ [])) i ≡ Some p →
    (slice_get (positions at who done) i ≡ Some p) ⊎ ((s ≡ who) × (i ≡ steps_of who done) × (p ≡ at + length done))
position_cases at who s done i p h = elim (cases_eq s who) [
  | inl e ↦ elim (cases_eq i (steps_of who done)) [
    | inl l ↦ inr (
      e,
      l,
      same_Some p (at + length done) (sym h ∙ ap (λ z. slice_get (positions at who (done ++ z ∷ [])) i) e ∙ position_new at who done i l),
    )
    | inr ne ↦ inl (sym (position_same at who s done i (λ _. ne)) ∙ h)
  ]
  | inr d ↦ inl (sym (position_same at who s done i (λ e. absurd (d e))) ∙ h)
]
