-- A log from which one operation is removed: its orders are those of the log in which that isn't placed any more.
use Rattle.std.proofs.Common.{◌≡◌, ◌≢◌, ℕ, zero, suc, ◌+◌, ◌-◌, ◌<◌, ◌≤◌, Bool, true, false, cond, nat_eq, nat_lt, List, [], ◌∷◌, map}
use Rattle.std.proofs.Common.{slice_get, Option, None, Some, refl, sym, ◌∙◌, ap, subst, arith, inl, inr}
use Rattle.std.proofs.lemmas.Bool.{cases_eq, cases_lt}
use Rattle.std.proofs.lemmas.Bool.Decides.{nat_tests}
use Rattle.std.proofs.lemmas.Option.{same_Some}
use Rattle.history_core.specs.Orders.{times_of}
use Rattle.object_core.specs.declared.operation.Operation.{Operation}
use Rattle.object_core.specs.Logs.{CanMake, is_due, IsLawfulOrder, IsLinearizable, KeepsPrecedence, MayStand, NonePrecedes}
use Rattle.object_sweep.specs.Rests.{CanFinish, IsRest, MayStandBehind}
use Rattle.object_sweep.proofs.Placed.{other_number, same_number, times_here, times_there}
use Rattle.object_watch.specs.Remainders.{removed}

-- where an entry stood before one was removed, and where it stands then
abbrev pub up : ℕ → ℕ → ℕ
up q i = cond (nat_lt i q) i (suc i)

abbrev pub down : ℕ → ℕ → ℕ
down q p = cond (nat_lt p q) p (p - 1)

pub up_before : (q i : ℕ) → i < q → up q i ≡ i
up_before q i l = let e : nat_lt i q ≡ true = grind (arith, nat_tests) in ap (λ b. cond b i (suc i)) e

pub up_behind : (q i : ℕ) → q ≤ i → up q i ≡ suc i
up_behind q i l = let e : nat_lt i q ≡ false = grind (arith, nat_tests) in ap (λ b. cond b i (suc i)) e

pub down_before : (q p : ℕ) → p < q → down q p ≡ p
down_before q p l = let e : nat_lt p q ≡ true = grind (arith, nat_tests) in ap (λ b. cond b p (p - 1)) e

pub down_behind : (q p : ℕ) → q ≤ p → down q p ≡ p - 1
down_behind q p l = let e : nat_lt p q ≡ false = grind (arith, nat_tests) in ap (λ b. cond b p (p - 1)) e

pub up_down : (q p : ℕ) → p ≢ q → up q (down q p) ≡ p
up_down q p ne = elim (cases_lt p q) [
  | inl l ↦ ap (up q) (down_before q p l) ∙ up_before q p l
  | inr le ↦
      let more : q < p = elim (cases_lt q p) [ inl l ↦ l | inr ge ↦ absurd (ne (omega (arith, le, ge))) ] in
      let suc_of : suc (p - 1) ≡ p = omega (arith, more) in
      ap (up q) (down_behind q p le) ∙ (up_behind q (p - 1) (omega (arith, more)) ∙ suc_of)
]

pub up_other : (q i : ℕ) → up q i ≢ q
up_other q i e = elim (cases_lt i q) [
  | inl l ↦ let f = up_before q i l in omega (arith, e, f, l)
  | inr le ↦ let f = up_behind q i le in omega (arith, e, f, le)
]

pub up_same : (q i j : ℕ) → up q i ≡ up q j → i ≡ j
up_same q i j e = elim (cases_lt i q) [
  | inl l ↦
      let f = up_before q i l in
      elim (cases_lt j q) [
        | inl m ↦ let g = up_before q j m in omega (arith, e, f, g)
        | inr m ↦ let g = up_behind q j m in absurd (omega (arith, e, f, g, l, m))
      ]
  | inr l ↦
      let f = up_behind q i l in
      elim (cases_lt j q) [
        | inl m ↦ let g = up_before q j m in absurd (omega (arith, e, f, g, l, m))
        | inr m ↦ let g = up_behind q j m in omega (arith, e, f, g)
      ]
]

-- what stands there
pub get_up : {X : Type 0} (q : ℕ) (xs : List X) (i : ℕ) → slice_get (removed q xs) i ≡ slice_get xs (up q i)
get_up {X = X} q xs i = elim (cases_lt i q) [
  | inl l ↦ before q xs i l ∙ ap (slice_get xs) (sym (up_before q i l))
  | inr le ↦ behind q xs i le ∙ ap (slice_get xs) (sym (up_behind q i le))
]
  where
    before : (q : ℕ) (ys : List X) (i : ℕ) → i < q → slice_get (removed q ys) i ≡ slice_get ys i
    before q [] i l = refl
    before zero (y ∷ ys) i l = absurd (omega (arith, l))
    before (suc q) (y ∷ ys) zero l = refl
    before (suc q) (y ∷ ys) (suc i) l = before q ys i (omega (arith, l))

    behind : (q : ℕ) (ys : List X) (i : ℕ) → q ≤ i → slice_get (removed q ys) i ≡ slice_get ys (suc i)
    behind q [] i l = refl
    behind zero (y ∷ ys) i l = refl
    behind (suc q) (y ∷ ys) zero l = absurd (omega (arith, l))
    behind (suc q) (y ∷ ys) (suc i) l = behind q ys i (omega (arith, l))

-- how often they stand in an order
pub times_up : (q i : ℕ) (order : List ℕ) → times_of (up q i) (map (up q) order) ≡ times_of i order
times_up q i [] = refl
times_up q i (x ∷ xs) = elim (cases_eq x i) [
  | inl e ↦
      let a : times_of (up q i) (up q x ∷ map (up q) xs) ≡ 1 + times_of (up q i) (map (up q) xs) =
      ap (λ z. times_of (up q i) (up q z ∷ map (up q) xs)) e ∙ times_here (up q i) (map (up q) xs) in
      let b : times_of i (x ∷ xs) ≡ 1 + times_of i xs = ap (λ z. times_of i (z ∷ xs)) e ∙ times_here i xs in
      let c = times_up q i xs in omega (arith, a, b, c)
  | inr ne ↦
      let a = times_there (up q i) (up q x) (map (up q) xs) (λ s. ne (up_same q x i s)) in
      let b = times_there i x xs ne in
      a ∙ (times_up q i xs ∙ sym b)
]

pub times_gap : (q : ℕ) (order : List ℕ) → times_of q (map (up q) order) ≡ 0
times_gap q [] = refl
times_gap q (x ∷ xs) = times_there q (up q x) (map (up q) xs) (up_other q x) ∙ times_gap q xs

-- an order in which one never stands
pub all_up : (q : ℕ) (rest : List ℕ) → times_of q rest ≡ 0 → map (up q) (map (down q) rest) ≡ rest
all_up q [] none = refl
all_up q (x ∷ xs) none = elim (cases_eq x q) [
  | inl e ↦
      let a : times_of q (x ∷ xs) ≡ 1 + times_of q xs = ap (λ z. times_of q (z ∷ xs)) e ∙ times_here q xs in absurd (omega (arith, a, none))
  | inr ne ↦
      let a = times_there q x xs ne in
      ap (λ z. z ∷ map (up q) (map (down q) xs)) (up_down q x ne) ∙ ap (λ zs. x ∷ zs) (all_up q xs (sym a ∙ none))
]

module _ {S W : Type 0} (after : S → W → Option S) (log : List (Operation W)) (q : ℕ) where
  made_up : (s : S) (order : List ℕ) → CanMake after (removed q log) s order → CanMake after log s (map (up q) order)
  made_up s [] h = tt
  made_up s (x ∷ xs) h = (h.0, h.1, sym (get_up q log x) ∙ h.2, h.3, made_up h.1 xs h.4)

  made_down : (s : S) (order : List ℕ) → CanMake after log s (map (up q) order) → CanMake after (removed q log) s order
  made_down s [] h = tt
  made_down s (x ∷ xs) h = (h.0, h.1, get_up q log x ∙ h.2, h.3, made_down h.1 xs h.4)

  kept_up : (order : List ℕ) → KeepsPrecedence (removed q log) order → KeepsPrecedence log (map (up q) order)
  kept_up [] h = tt
  kept_up (x ∷ xs) h = (first, kept_up xs h.1)
    where
      first : NonePrecedes log (map (up q) xs) (up q x)
      first r a b stood ra xb =
          let ne : r ≢ q = λ e.
          (let none = times_gap q xs in let same = ap (λ z. times_of z (map (up q) xs)) e in omega (arith, stood, none, same)) in
          let is : up q (down q r) ≡ r = up_down q r ne in
          let times : times_of (down q r) xs ≡ times_of r (map (up q) xs) =
          sym (times_up q (down q r) xs) ∙ ap (λ z. times_of z (map (up q) xs)) is in
          h.0 (down q r) a b (omega (arith, stood, times)) (get_up q log (down q r) ∙ (ap (slice_get log) is ∙ ra)) (get_up q log x ∙ xb)

  kept_down : (order : List ℕ) → KeepsPrecedence log (map (up q) order) → KeepsPrecedence (removed q log) order
  kept_down [] h = tt
  kept_down (x ∷ xs) h = (first, kept_down xs h.1)
    where
      first : NonePrecedes (removed q log) xs x
      first r a b stood ra xb =
          let times = times_up q r xs in
          h.0 (up q r) a b (omega (arith, stood, times)) (sym (get_up q log r) ∙ ra) (sym (get_up q log x) ∙ xb)

  -- an order of the log without it, and of the log in which it isn't placed any more
  pub lowered : (s : S) (rest : List ℕ) → IsRest after log (λ r. nat_eq r q) s rest →
      IsLawfulOrder after s (removed q log) (map (down q) rest)
  lowered s rest h = record { listing = listing; precedence = kept_down order precedence; steps = made_down s order steps }
    where
      gone : (b due : Bool) (times : ℕ) → b ≡ true → MayStandBehind b due times → times ≡ 0
      gone true due times e m = m
      gone false due times e m = cc

      none : (m : Option (Operation W)) → slice_get log q ≡ m → times_of q rest ≡ 0
      none None e = never s rest h.steps
        where
          never : (t : S) (xs : List ℕ) → CanMake after log t xs → times_of q xs ≡ 0
          never t [] can = refl
          never t (x ∷ xs) can = elim (cases_eq x q) [
            | inl f ↦ let g : None ≡ Some can.0 = sym e ∙ (ap (slice_get log) (sym f) ∙ can.2) in cc
            | inr ne ↦ times_there q x xs ne ∙ never can.1 xs can.4
          ]
      none (Some o) e = gone (nat_eq q q) (is_due o) (times_of q rest) (same_number q) (h.listing q o e)

      order : List ℕ
      order = map (down q) rest

      whole : map (up q) order ≡ rest
      whole = all_up q rest (none (slice_get log q) refl)

      precedence : KeepsPrecedence log (map (up q) order)
      precedence = subst (KeepsPrecedence log) (sym whole) h.precedence

      steps : CanMake after log s (map (up q) order)
      steps = subst (CanMake after log s) (sym whole) h.steps

      free : (b due : Bool) (times : ℕ) → b ≡ false → MayStandBehind b due times → MayStand due times
      free true due times e m = cc
      free false due times e m = m

      listing : (i : ℕ) (o : Operation W) → slice_get (removed q log) i ≡ Some o → MayStand (is_due o) (times_of i order)
      listing i o at =
          let m = h.listing (up q i) o (sym (get_up q log i) ∙ at) in
          let n = free (nat_eq (up q i) q) (is_due o) (times_of (up q i) rest) (other_number (up q i) q (up_other q i)) m in
          let times : times_of (up q i) rest ≡ times_of i order = ap (times_of (up q i)) (sym whole) ∙ times_up q i order in
          subst (MayStand (is_due o)) times n

  pub raised : (s : S) (order : List ℕ) → IsLawfulOrder after s (removed q log) order →
      IsRest after log (λ r. nat_eq r q) s (map (up q) order)
  raised s order h = record { listing = listing; precedence = kept_up order h.precedence; steps = made_up s order h.steps }
    where
      shut : (b due : Bool) (times : ℕ) → b ≡ true → times ≡ 0 → MayStandBehind b due times
      shut true due times e z = z
      shut false due times e z = cc

      free : (b due : Bool) (times : ℕ) → b ≡ false → MayStand due times → MayStandBehind b due times
      free true due times e m = cc
      free false due times e m = m

      listing : (p : ℕ) (o : Operation W) → slice_get log p ≡ Some o →
          MayStandBehind (nat_eq p q) (is_due o) (times_of p (map (up q) order))
      listing p o at = elim (cases_eq p q) [
        | inl e ↦
            let b : nat_eq p q ≡ true = ap (λ z. nat_eq z q) e ∙ same_number q in
            let z : times_of p (map (up q) order) ≡ 0 = ap (λ y. times_of y (map (up q) order)) e ∙ times_gap q order in
            shut (nat_eq p q) (is_due o) (times_of p (map (up q) order)) b z
        | inr ne ↦
            let is : up q (down q p) ≡ p = up_down q p ne in
            let there : slice_get (removed q log) (down q p) ≡ Some o = get_up q log (down q p) ∙ (ap (slice_get log) is ∙ at) in
            let m = h.listing (down q p) o there in
            let times : times_of (down q p) order ≡ times_of p (map (up q) order) =
            sym (times_up q (down q p) order) ∙ ap (λ z. times_of z (map (up q) order)) is in
            free (nat_eq p q) (is_due o) (times_of p (map (up q) order)) (other_number p q ne) (subst (MayStand (is_due o)) times m)
      ]

  -- the log without it, and the log in which it isn't placed any more
  pub removed_rest : (s : S) → CanFinish after log (λ r. nat_eq r q) s → IsLinearizable after s (removed q log)
  removed_rest s h = (map (down q) h.0, lowered s h.0 h.1)

  pub rest_removed : (s : S) → IsLinearizable after s (removed q log) → CanFinish after log (λ r. nat_eq r q) s
  rest_removed s h = (map (up q) h.0, raised s h.0 h.1)

  -- where it never stands, it need not be placed any more
  pub shut_out : (s : S) (order : List ℕ) → IsLawfulOrder after s log order → times_of q order ≡ 0 →
      IsRest after log (λ r. nat_eq r q) s order
  shut_out s order h none = record { listing = listing; precedence = h.precedence; steps = h.steps }
    where
      shut : (b due : Bool) (times : ℕ) → b ≡ true → times ≡ 0 → MayStandBehind b due times
      shut true due times e z = z
      shut false due times e z = cc

      free : (b due : Bool) (times : ℕ) → b ≡ false → MayStand due times → MayStandBehind b due times
      free true due times e m = cc
      free false due times e m = m

      listing : (p : ℕ) (o : Operation W) → slice_get log p ≡ Some o → MayStandBehind (nat_eq p q) (is_due o) (times_of p order)
      listing p o at = elim (cases_eq p q) [
        | inl e ↦
            let b : nat_eq p q ≡ true = ap (λ z. nat_eq z q) e ∙ same_number q in
            shut (nat_eq p q) (is_due o) (times_of p order) b (ap (λ z. times_of z order) e ∙ none)
        | inr ne ↦ free (nat_eq p q) (is_due o) (times_of p order) (other_number p q ne) (h.listing p o at)
      ]

  -- and where it isn't due, it may as well be placed
  pub let_in : (o : Operation W) → slice_get log q ≡ Some o → is_due o ≡ false → (s : S) (rest : List ℕ) →
      IsRest after log (λ r. nat_eq r q) s rest → IsLawfulOrder after s log rest
  let_in o at unsure s rest h = record { listing = listing; precedence = h.precedence; steps = h.steps }
    where
      at_most : (b due : Bool) (times : ℕ) → b ≡ true → due ≡ false → MayStandBehind b due times → MayStand due times
      at_most true true times e d m = cc
      at_most true false times e d m = omega (arith, m)
      at_most false due times e d m = cc

      free : (b due : Bool) (times : ℕ) → b ≡ false → MayStandBehind b due times → MayStand due times
      free true due times e m = cc
      free false due times e m = m

      listing : (p : ℕ) (a : Operation W) → slice_get log p ≡ Some a → MayStand (is_due a) (times_of p rest)
      listing p a pa = elim (cases_eq p q) [
        | inl e ↦
            let b : nat_eq p q ≡ true = ap (λ z. nat_eq z q) e ∙ same_number q in
            let same : o ≡ a = same_Some o a (sym at ∙ (ap (slice_get log) (sym e) ∙ pa)) in
            at_most (nat_eq p q) (is_due a) (times_of p rest) b (ap is_due (sym same) ∙ unsure) (h.listing p a pa)
        | inr ne ↦ free (nat_eq p q) (is_due a) (times_of p rest) (other_number p q ne) (h.listing p a pa)
      ]
