-- With other numbers, one for each, a log has the same orders.
use Rattle.std.proofs.Common.{◌≡◌, ◌≢◌, ℕ, suc, ◌+◌, ◌≤◌, List, [], ◌∷◌, ◌++◌, map, refl, ap, sym, ◌∙◌, subst, slice_get}
use Rattle.std.proofs.Common.{Bool, true, false, cond, Some, None, option_map, inl, inr, arith}
use Rattle.std.specs.Prelude.{◌↔◌, ◌⊎◌, nat_eq, not, ◌&&◌}
use Rattle.std.proofs.lemmas.Bool.Decides.{nat_tests}
use Rattle.std.proofs.lemmas.List.{map-append}
use Rattle.std.proofs.lemmas.Option.{none-some, same_Some}
use Rattle.history_core.specs.Orders.{times_of}
use Rattle.object_core.specs.declared.operation.Operation.{Operation}
use Rattle.object_core.specs.Logs.{CanMake, IsLinearizable, IsListing, is_due, KeepsPrecedence, MayStand, NonePrecedes}
use Rattle.object_core.specs.Logs.{Precedes}
use Rattle.object_registers.specs.declared.exchanging.Exchange.{Exchange}
use Rattle.object_registers.specs.declared.exchanging.Exchange.TheVariants.{Sets, Gets, Swaps, Misses, Finds, Tries, Refuses}
use Rattle.object_registers.specs.declared.exchanging.Exchanging.{Exchanging}
use Rattle.object_registers.specs.Registers.{exchanging_after}
use Rattle.object_sweep.specs.Rests.{RunForwards}
use Rattle.object_watch.specs.Remainders.{AnyLawfulWith, AreHeldWith, AreLedTo, ComesFrom, IsLedTo, IsOfOne, IsOneOfLog, known}
use Rattle.object_watch.specs.Remainders.IsLedTo.{Held, Leads}
use Rattle.object_watch.specs.Watches.{AreTooManyAt, EndsThen, IsFirstLost, IsHeldOf, IsLawfulBetween, IsLawfulUntil, IsLostAfter}
use Rattle.object_watch.specs.declared.remainder.Remainder.{Remainder}
use Rattle.watch_lines.specs.Kept.{AreNaming, IsHeldRecord, Names}
use Rattle.watch_lines.specs.Lined.{lined_after}
use Rattle.watch_lines.specs.Namings.{exchange_by, lined_by, log_by, Naming}
use Rattle.watch_lines.specs.Steps.{opened}
use Rattle.watch_lines.specs.declared.lined.Lined.{Lined}
use Rattle.watch_lines.specs.declared.lined.LinedRegister.{LinedRegister}
use Rattle.watch_lines.proofs.LinedLemmas.{at_map, makes, made, of_map}

abbrev register_by : (ℕ → ℕ) → Exchanging → Exchanging
register_by f s = record { held = f s.held }

abbrev state_by : (ℕ → ℕ) → LinedRegister → LinedRegister
state_by f s = record { register = register_by f s.register }

-- ---- one for each

module _ (f : ℕ → ℕ) (single : (m n : ℕ) → f m ≡ f n → m ≡ n) where
  same_test : (m n : ℕ) → nat_eq (f m) (f n) ≡ nat_eq m n
  same_test m n = by_tests (nat_eq (f m) (f n)) (nat_eq m n) refl refl
    where
      by_tests : (b c : Bool) → nat_eq (f m) (f n) ≡ b → nat_eq m n ≡ c → b ≡ c
      by_tests true true e g = refl
      by_tests false false e g = refl
      by_tests true false e g =
          let same : f m ≡ f n = grind (arith, nat_tests) in
          let is : m ≡ n = single m n same in absurd (let ne : m ≢ n = grind (arith, nat_tests) in ne is)
      by_tests false true e g =
          let is : m ≡ n = grind (arith, nat_tests) in
          absurd (let ne : f m ≢ f n = grind (arith, nat_tests) in ne (ap f is))

  by_test : (b : Bool) (s : Exchanging) → cond b (Some (register_by f s)) None ≡ option_map (register_by f) (cond b (Some s) None)
  by_test true s = refl
  by_test false s = refl

  by_not : (b : Bool) (s : Exchanging) → cond b None (Some (register_by f s)) ≡ option_map (register_by f) (cond b None (Some s))
  by_not true s = refl
  by_not false s = refl

  by_choice : (b : Bool) (s t : Exchanging) →
      Some (cond b (register_by f t) (register_by f s)) ≡ option_map (register_by f) (Some (cond b t s))
  by_choice true s t = refl
  by_choice false s t = refl

  step_by : (s : Exchanging) (what : Exchange) →
      exchanging_after (register_by f s) (exchange_by f what) ≡ option_map (register_by f) (exchanging_after s what)
  step_by s (Sets value) = refl
  step_by s (Gets value) =
      ap (λ (b : Bool). cond b (Some (register_by f s)) None) (same_test s.held value) ∙ by_test (nat_eq s.held value) s
  step_by s (Swaps from to) =
      let t : Exchanging = record { held = to } in
      ap (λ (b : Bool). cond b (Some (register_by f t)) None) (same_test s.held from) ∙ by_test (nat_eq s.held from) t
  step_by s (Misses from) =
      ap (λ (b : Bool). cond b None (Some (register_by f s))) (same_test s.held from) ∙ by_not (nat_eq s.held from) s
  step_by s (Finds from found) =
      ap (λ (b : Bool). cond (b && not (nat_eq (f from) (f found))) (Some (register_by f s)) None) (same_test s.held found)
      ∙ (ap (λ (b : Bool). cond (nat_eq s.held found && not b) (Some (register_by f s)) None) (same_test from found)
      ∙ by_test (nat_eq s.held found && not (nat_eq from found)) s)
  step_by s (Tries from to) =
      let t : Exchanging = record { held = to } in
      ap (λ (b : Bool). Some (cond b (register_by f t) (register_by f s))) (same_test s.held from)
      ∙ by_choice (nat_eq s.held from) s t
  step_by s (Refuses value) =
      ap (λ (b : Bool). cond b (Some (register_by f s)) None) (same_test s.held value) ∙ by_test (nat_eq s.held value) s

  makes_by : (s t : LinedRegister) (what : Lined) → lined_after s what ≡ Some t →
      lined_after (state_by f s) (record { what = exchange_by f what.what; line = what.line }) ≡ Some (state_by f t)
  makes_by s t what e =
      makes _ (register_by f t.register) (step_by s.register what.what
      ∙ ap (option_map (register_by f)) (made (exchanging_after s.register what.what) t e))

  listing_by : (log : List (Operation Lined)) (order : List ℕ) → IsListing log order → IsListing (log_by f log) order
  listing_by log order h p o at =
      let from = of_map (lined_by f) log p o at in
      let P : Operation Lined → Type 0 = λ z. MayStand (is_due z) (times_of p order) in
      subst P from.2 (h p from.0 from.1)

  none_by : (log : List (Operation Lined)) (order : List ℕ) (p : ℕ) → NonePrecedes log order p → NonePrecedes (log_by f log) order p
  none_by log order p h q a b stands at_q at_p before =
      let x = of_map (lined_by f) log q a at_q in
      let y = of_map (lined_by f) log p b at_p in
      let P : Operation Lined → Type 0 = λ z. Precedes z b in
      let Q : Operation Lined → Type 0 = λ z. Precedes (lined_by f x.0) z in
      h q x.0 y.0 stands x.1 y.1 (subst Q (sym y.2) (subst P (sym x.2) before))

  keeps_by : (log : List (Operation Lined)) (order : List ℕ) → KeepsPrecedence log order → KeepsPrecedence (log_by f log) order
  keeps_by log [] h = tt
  keeps_by log (p ∷ order) h = (none_by log order p h.0, keeps_by log order h.1)

  can_by : (log : List (Operation Lined)) (s : LinedRegister) (order : List ℕ) → CanMake lined_after log s order →
      CanMake lined_after (log_by f log) (state_by f s) order
  can_by log s [] h = tt
  can_by log s (p ∷ order) h = (
    lined_by f h.0,
    state_by f h.1,
    at_map (lined_by f) log p h.0 h.2,
    makes_by s h.1 h.0.what h.3,
    can_by log h.1 order h.4,
  )

  lawful_by : (s : LinedRegister) (log : List (Operation Lined)) → IsLinearizable lined_after s log →
      IsLinearizable lined_after (state_by f s) (log_by f log)
  lawful_by s log h = (
    h.0,
    record {
      listing = listing_by log h.0 h.1.listing;
      precedence = keeps_by log h.0 h.1.precedence;
      steps = can_by log s h.0 h.1.steps;
    },
  )

-- ---- lists of operations

known_by : (f : ℕ → ℕ) (last : ℕ) (log : List (Operation Lined)) → log_by f (map (known last) log) ≡ map (known last) (log_by f log)
known_by f last [] = refl
known_by f last (o ∷ log) = ap (λ (zs : List (Operation Lined)). known last (lined_by f o) ∷ zs) (known_by f last log)

append_by : (f : ℕ → ℕ) (xs ys : List (Operation Lined)) → log_by f (xs ++ ys) ≡ log_by f xs ++ log_by f ys
append_by f xs ys = map-append (lined_by f) xs ys

comes_by : (f : ℕ → ℕ) (moment last : ℕ) (future : List (Operation Lined)) → ComesFrom moment last future →
    ComesFrom moment last (log_by f future)
comes_by f moment last future c = record { later = c.later; begins = begins; forwards = forwards }
  where
    begins : (i : ℕ) (o : Operation Lined) → slice_get (log_by f future) i ≡ Some o → moment ≤ o.starts
    begins i o e =
        let x = of_map (lined_by f) future i o e in
        let P : Operation Lined → Type 0 = λ z. moment ≤ z.starts in subst P x.2 (c.begins i x.0 x.1)

    forwards : RunForwards (log_by f future)
    forwards i end o e ends =
        let x = of_map (lined_by f) future i o e in
        let P : Operation Lined → Type 0 = λ z. z.starts ≤ end in
        subst P x.2 (c.forwards i end x.0 x.1 (ap (λ (z : Operation Lined). z.ends) x.2 ∙ ends))

module _ (f g : ℕ → ℕ) (there : (n : ℕ) → g (f n) ≡ n) where
  exchange_there : (what : Exchange) → exchange_by g (exchange_by f what) ≡ what
  exchange_there (Sets value) = ap Sets (there value)
  exchange_there (Gets value) = ap Gets (there value)
  exchange_there (Swaps from to) = ap (λ (n : ℕ). Swaps n (g (f to))) (there from) ∙ ap (Swaps from) (there to)
  exchange_there (Misses from) = ap Misses (there from)
  exchange_there (Finds from found) = ap (λ (n : ℕ). Finds n (g (f found))) (there from) ∙ ap (Finds from) (there found)
  exchange_there (Tries from to) = ap (λ (n : ℕ). Tries n (g (f to))) (there from) ∙ ap (Tries from) (there to)
  exchange_there (Refuses value) = ap Refuses (there value)

  pub op_there : (o : Operation Lined) → lined_by g (lined_by f o) ≡ o
  op_there o =
      let make : Exchange → Operation Lined = λ w. record {
        starts = o.starts;
        ends = o.ends;
        maybe = o.maybe;
        what = record { what = w; line = o.what.line };
      } in
      ap make (exchange_there o.what.what)

  pub log_there : (log : List (Operation Lined)) → log_by g (log_by f log) ≡ log
  log_there [] = refl
  log_there (o ∷ log) =
      ap (λ (z : Operation Lined). z ∷ log_by g (log_by f log)) (op_there o)
      ∙ ap (λ (zs : List (Operation Lined)). o ∷ zs) (log_there log)

  single_there : (m n : ℕ) → f m ≡ f n → m ≡ n
  single_there m n e = sym (there m) ∙ (ap g e ∙ there n)

-- by one way and another one
module _ (f g k : ℕ → ℕ) (through : (n : ℕ) → g (f n) ≡ k n) where
  exchange_through : (what : Exchange) → exchange_by g (exchange_by f what) ≡ exchange_by k what
  exchange_through (Sets value) = ap Sets (through value)
  exchange_through (Gets value) = ap Gets (through value)
  exchange_through (Swaps from to) = ap (λ (n : ℕ). Swaps n (g (f to))) (through from) ∙ ap (Swaps (k from)) (through to)
  exchange_through (Misses from) = ap Misses (through from)
  exchange_through (Finds from found) = ap (λ (n : ℕ). Finds n (g (f found))) (through from) ∙ ap (Finds (k from)) (through found)
  exchange_through (Tries from to) = ap (λ (n : ℕ). Tries n (g (f to))) (through from) ∙ ap (Tries (k from)) (through to)
  exchange_through (Refuses value) = ap Refuses (through value)

  log_through : (log : List (Operation Lined)) → log_by g (log_by f log) ≡ log_by k log
  log_through [] = refl
  log_through (o ∷ log) =
      let make : Exchange → Operation Lined = λ w. record {
        starts = o.starts;
        ends = o.ends;
        maybe = o.maybe;
        what = record { what = w; line = o.what.line };
      } in
      ap (λ (w : Exchange). make w ∷ log_by g (log_by f log)) (exchange_through o.what.what)
      ∙ ap (λ (zs : List (Operation Lined)). lined_by k o ∷ zs) (log_through log)

-- with the numbers that are named it stays as it is
module _ (f : ℕ → ℕ) where
  exchange_fixed : (what : Exchange) → ((n : ℕ) → Names what n → f n ≡ n) → exchange_by f what ≡ what
  exchange_fixed (Sets value) h = ap Sets (h value refl)
  exchange_fixed (Gets value) h = ap Gets (h value refl)
  exchange_fixed (Swaps from to) h =
      ap (λ (n : ℕ). Swaps n (f to)) (h from (inl refl)) ∙ ap (Swaps from) (h to (inr refl))
  exchange_fixed (Misses from) h = ap Misses (h from refl)
  exchange_fixed (Finds from found) h =
      ap (λ (n : ℕ). Finds n (f found)) (h from (inl refl)) ∙ ap (Finds from) (h found (inr refl))
  exchange_fixed (Tries from to) h =
      ap (λ (n : ℕ). Tries n (f to)) (h from (inl refl)) ∙ ap (Tries from) (h to (inr refl))
  exchange_fixed (Refuses value) h = ap Refuses (h value refl)

  op_fixed : (o : Operation Lined) → ((n : ℕ) → Names o.what.what n → f n ≡ n) → lined_by f o ≡ o
  op_fixed o h =
      let make : Exchange → Operation Lined = λ w. record {
        starts = o.starts;
        ends = o.ends;
        maybe = o.maybe;
        what = record { what = w; line = o.what.line };
      } in
      ap make (exchange_fixed o.what.what h)

  log_fixed : (ops : List (Operation Lined)) → ((n : ℕ) → AreNaming ops n → f n ≡ n) → log_by f ops ≡ ops
  log_fixed [] h = refl
  log_fixed (o ∷ ops) h =
      ap (λ (z : Operation Lined). z ∷ log_by f ops) (op_fixed o (λ n names. h n (o, (0, refl), names)))
      ∙ ap (λ (zs : List (Operation Lined)). o ∷ zs)
      (log_fixed ops (λ n x. h n (x.0, (suc x.1.0, x.1.1), x.2)))

state_fixed : (f : ℕ → ℕ) (s : LinedRegister) → f s.register.held ≡ s.register.held → state_by f s ≡ s
state_fixed f s e =
    let make : ℕ → LinedRegister = λ n. record { register = record { held = n } } in ap make e

-- ---- from one to the other

-- what is known of two lists, the one behind the other
moved : (f : ℕ → ℕ) (single : (m n : ℕ) → f m ≡ f n → m ≡ n) (last : ℕ) (s t : LinedRegister)
    (xs us ys vs : List (Operation Lined)) →
    state_by f s ≡ t → log_by f xs ≡ us → log_by f ys ≡ vs → IsLinearizable lined_after s (map (known last) (xs ++ ys)) →
    IsLinearizable lined_after t (map (known last) (us ++ vs))
moved f single last s t xs us ys vs state first second h =
    let P : List (Operation Lined) → Type 0 = λ z. IsLinearizable lined_after (state_by f s) z in
    let Q : LinedRegister → Type 0 = λ z. IsLinearizable lined_after z (map (known last) (us ++ vs)) in
    let both : log_by f (map (known last) (xs ++ ys)) ≡ map (known last) (us ++ vs) =
    known_by f last (xs ++ ys) ∙ (ap (map (known last)) (append_by f xs ys)
    ∙ (ap (λ (zs : List (Operation Lined)). map (known last) (zs ++ log_by f ys)) first
    ∙ ap (λ (zs : List (Operation Lined)). map (known last) (us ++ zs)) second)) in
    subst Q state (subst P both (lawful_by f single s (map (known last) (xs ++ ys)) h))

-- what is held stays what is held, where its numbers stay
module _ (h : Naming) (zero_stays : h.to 0 ≡ 0) (log : List (Operation Lined)) (moment : ℕ)
    (held : List (Remainder LinedRegister Lined)) (fixed : (n : ℕ) → IsHeldRecord held n → h.to n ≡ n) where
  back_zero : h.from 0 ≡ 0
  back_zero = ap h.from (sym zero_stays) ∙ h.back 0

  back_fixed : (n : ℕ) → IsHeldRecord held n → h.from n ≡ n
  back_fixed n is = ap h.from (sym (fixed n is)) ∙ h.back n

  to_single : (m n : ℕ) → h.to m ≡ h.to n → m ≡ n
  to_single = single_there h.to h.from h.back

  from_single : (m n : ℕ) → h.from m ≡ h.from n → m ≡ n
  from_single = single_there h.from h.to h.forth

  pub held_by : IsHeldOf lined_after opened log moment held → IsHeldOf lined_after opened (log_by h.to log) moment held
  held_by w = record { some = w.some; ahead = w.ahead; of = of; goes = goes }
    where
      of : (o : Operation Lined) → IsOfOne held o → IsOneOfLog (log_by h.to log) o
      of o x =
          let l = w.of o x in
          let stays = op_fixed h.to o (λ n names. fixed n (x.0, x.1, x.2, inr (o, x.3, names))) in
          (l.0, at_map (lined_by h.to) log l.0 o l.1 ∙ ap Some stays)

      goes : (future : List (Operation Lined)) (last : ℕ) → ComesFrom moment last future →
          (IsLinearizable lined_after opened (map (known last) (log_by h.to log ++ future))
          ↔ AnyLawfulWith lined_after future last held)
      goes future last c = (onward, back)
        where
          was : List (Operation Lined)
          was = log_by h.from future

          onward : IsLinearizable lined_after opened (map (known last) (log_by h.to log ++ future)) →
              AnyLawfulWith lined_after future last held
          onward lawful =
              let x = (w.goes was last (comes_by h.from moment last future c)).0
              (moved h.from from_single last opened opened (log_by h.to log) log future was (state_fixed h.from opened back_zero)
              (log_there h.to h.from h.back log) refl lawful) in
              let keeps : (n : ℕ) → IsHeldRecord held n → h.to n ≡ n = fixed in (
                x.0,
                x.1,
                x.2,
                moved h.to to_single last x.1.state x.1.state x.1.rest.items x.1.rest.items was future
                    (state_fixed h.to x.1.state (fixed x.1.state.register.held (x.0, x.1, x.2, inl refl)))
                    (log_fixed h.to x.1.rest.items (λ n names. fixed n (x.0, x.1, x.2, inr names)))
                    (log_there h.from h.to h.forth future) x.3,
              )

          back : AnyLawfulWith lined_after future last held →
              IsLinearizable lined_after opened (map (known last) (log_by h.to log ++ future))
          back x =
              let there = moved h.from from_single last x.1.state x.1.state x.1.rest.items x.1.rest.items future was
              (state_fixed h.from x.1.state (back_fixed x.1.state.register.held (x.0, x.1, x.2, inl refl)))
              (log_fixed h.from x.1.rest.items (λ n names. back_fixed n (x.0, x.1, x.2, inr names))) refl x.3 in
              moved h.to to_single last opened opened log (log_by h.to log) was future (state_fixed h.to opened zero_stays) refl
              (log_there h.from h.to h.forth future)
              ((w.goes was last (comes_by h.from moment last future c)).1 (x.0, x.1, x.2, there))

-- from one naming to another one that is the same for what is held
module _ (one other : Naming) (one_zero : one.to 0 ≡ 0) (other_zero : other.to 0 ≡ 0) (log : List (Operation Lined)) (moment : ℕ)
    (held : List (Remainder LinedRegister Lined)) (same : (n : ℕ) → IsHeldRecord held n → other.from n ≡ one.from n) where
  between : Naming
  between = record {
    to = λ n. other.to (one.from n);
    from = λ n. one.to (other.from n);
    back = λ n. ap one.to (other.back (one.from n)) ∙ one.forth n;
    forth = λ n. ap other.to (one.back (other.from n)) ∙ other.forth n;
  }

  pub renamed : IsHeldOf lined_after opened (log_by one.to log) moment held →
      IsHeldOf lined_after opened (log_by other.to log) moment held
  unfolding between
  renamed w =
      let zero_is : between.to 0 ≡ 0 = ap (λ (n : ℕ). other.to (one.from n)) (sym one_zero) ∙ (ap other.to (one.back 0) ∙ other_zero) in
      let fixed : (n : ℕ) → IsHeldRecord held n → between.to n ≡ n = λ n is. ap other.to (sym (same n is)) ∙ other.forth n in
      let through = log_through one.to between.to other.to (λ n. ap other.to (one.back n)) log in
      subst (λ (zs : List (Operation Lined)). IsHeldOf lined_after opened zs moment held) through
      (held_by between zero_is (log_by one.to log) moment held fixed w)

-- one operation more
pub more_by : (naming : Naming) (log : List (Operation Lined)) (o : Operation Lined) →
    log_by naming.to (log ++ lined_by naming.from o ∷ []) ≡ log_by naming.to log ++ o ∷ []
more_by naming log o =
    append_by naming.to log (lined_by naming.from o ∷ [])
    ∙ ap (λ (z : Operation Lined). log_by naming.to log ++ z ∷ []) (op_there naming.from naming.to naming.forth o)

-- ---- what is held

-- a step leaves the record that was there, or one that it names
leaves : (s t : Exchanging) (what : Exchange) → exchanging_after s what ≡ Some t → (t.held ≡ s.held) ⊎ Names what t.held
leaves s t (Sets value) e = inr (ap (λ (z : Exchanging). z.held) (sym (same_Some _ t e)))
leaves s t (Gets value) e = by_test (nat_eq s.held value) e
  where
    by_test : (b : Bool) → cond b (Some s) None ≡ Some t → (t.held ≡ s.held) ⊎ (t.held ≡ value)
    by_test true f = inl (ap (λ (z : Exchanging). z.held) (sym (same_Some s t f)))
    by_test false f = absurd (none-some t f)
leaves s t (Swaps from to) e = by_test (nat_eq s.held from) e
  where
    by_test : (b : Bool) → cond b (Some (record { held = to })) None ≡ Some t →
        (t.held ≡ s.held) ⊎ ((t.held ≡ from) ⊎ (t.held ≡ to))
    by_test true f = inr (inr (ap (λ (z : Exchanging). z.held) (sym (same_Some _ t f))))
    by_test false f = absurd (none-some t f)
leaves s t (Misses from) e = by_test (nat_eq s.held from) e
  where
    by_test : (b : Bool) → cond b None (Some s) ≡ Some t → (t.held ≡ s.held) ⊎ (t.held ≡ from)
    by_test true f = absurd (none-some t f)
    by_test false f = inl (ap (λ (z : Exchanging). z.held) (sym (same_Some s t f)))
leaves s t (Finds from found) e = by_test (nat_eq s.held found && not (nat_eq from found)) e
  where
    by_test : (b : Bool) → cond b (Some s) None ≡ Some t → (t.held ≡ s.held) ⊎ ((t.held ≡ from) ⊎ (t.held ≡ found))
    by_test true f = inl (ap (λ (z : Exchanging). z.held) (sym (same_Some s t f)))
    by_test false f = absurd (none-some t f)
leaves s t (Tries from to) e = by_test (nat_eq s.held from) e
  where
    by_test : (b : Bool) → Some (cond b (record { held = to }) s) ≡ Some t →
        (t.held ≡ s.held) ⊎ ((t.held ≡ from) ⊎ (t.held ≡ to))
    by_test true f = inr (inr (ap (λ (z : Exchanging). z.held) (sym (same_Some _ t f))))
    by_test false f = inl (ap (λ (z : Exchanging). z.held) (sym (same_Some s t f)))
leaves s t (Refuses value) e = by_test (nat_eq s.held value) e
  where
    by_test : (b : Bool) → cond b (Some s) None ≡ Some t → (t.held ≡ s.held) ⊎ (t.held ≡ value)
    by_test true f = inl (ap (λ (z : Exchanging). z.held) (sym (same_Some s t f)))
    by_test false f = absurd (none-some t f)

-- what is so of each record that is held
module _ (Is : ℕ → Type 0) (held : List (Remainder LinedRegister Lined)) (all : (n : ℕ) → IsHeldRecord held n → Is n) where
  of_names : (o : Operation Lined) → IsOfOne held o → (n : ℕ) → Names o.what.what n → Is n
  of_names o x n names = all n (x.0, x.1, x.2, inr (o, x.3, names))

  of_state : (s : LinedRegister) → IsLedTo lined_after held s → Is s.register.held
  of_state s (Held i one e) = all one.state.register.held (i, one, e, inl refl)
  of_state s (Leads r t o led of step) = elim (leaves r.register t.register o.what.what (made _ t step)) [
    | inl still ↦ subst Is (sym still) (of_state r led)
    | inr names ↦ of_names o of t.register.held names
  ]

  -- is so of each that this leads to
  pub of_led : (new : List (Remainder LinedRegister Lined)) → AreLedTo lined_after held new → (n : ℕ) → IsHeldRecord new n → Is n
  of_led new led n (i, one, e, inl is) = subst Is (sym is) (of_state one.state (led.states i one e))
  of_led new led n (i, one, e, inr (o, l, names)) = of_names o (led.operations o (i, one, e, l)) n names

  -- and with an operation that names such records alone
  pub of_with : (op : Operation Lined) (new : List (Remainder LinedRegister Lined)) → AreHeldWith op held new →
      ((n : ℕ) → Names op.what.what n → Is n) → (n : ℕ) → IsHeldRecord new n → Is n
  of_with op new with also n (i, one, e, inl is) =
      let was = with.states i one e in
      all n (i, was.0, was.1, inl (is ∙ ap (λ (z : LinedRegister). z.register.held) was.2))
  of_with op new with also n (i, one, e, inr (o, l, names)) = elim (with.operations o (i, one, e, l)) [
    | inl was ↦ of_names o was n names
    | inr last ↦ also n (subst (λ (z : Operation Lined). Names z.what.what n) last names)
  ]

-- ---- what is told

module _ (naming : Naming) (zero_stays : naming.to 0 ≡ 0) (log : List (Operation Lined)) where
  from_zero : naming.from 0 ≡ 0
  from_zero = ap naming.from (sym zero_stays) ∙ naming.back 0

  single : (m n : ℕ) → naming.from m ≡ naming.from n → m ≡ n
  single = single_there naming.from naming.to naming.forth

  there_single : (m n : ℕ) → naming.to m ≡ naming.to n → m ≡ n
  there_single = single_there naming.to naming.from naming.back

  pub told_lawful : IsLinearizable lined_after opened (log_by naming.to log) → IsLinearizable lined_after opened log
  told_lawful h =
      let P : List (Operation Lined) → Type 0 = λ z. IsLinearizable lined_after (state_by naming.from opened) z in
      let Q : LinedRegister → Type 0 = λ z. IsLinearizable lined_after z log in
      subst Q (state_fixed naming.from opened from_zero)
      (subst P (log_there naming.to naming.from naming.back log) (lawful_by naming.from single opened (log_by naming.to log) h))

  pub told_unlawful : ¬ IsLinearizable lined_after opened (log_by naming.to log) → ¬ IsLinearizable lined_after opened log
  told_unlawful h lawful =
      let Q : LinedRegister → Type 0 = λ z. IsLinearizable lined_after z (log_by naming.to log) in
      h (subst Q (state_fixed naming.to opened zero_stays) (lawful_by naming.to there_single opened log lawful))

  told_until : (moment : ℕ) → IsLawfulUntil lined_after opened (log_by naming.to log) moment →
      IsLawfulUntil lined_after opened log moment
  told_until moment h =
      let P : List (Operation Lined) → Type 0 = λ z. IsLinearizable lined_after (state_by naming.from opened) z in
      let Q : LinedRegister → Type 0 = λ z. IsLinearizable lined_after z (map (known moment) log) in
      let same : log_by naming.from (map (known moment) (log_by naming.to log)) ≡ map (known moment) log =
      known_by naming.from moment (log_by naming.to log)
      ∙ ap (map (known moment)) (log_there naming.to naming.from naming.back log) in
      subst Q (state_fixed naming.from opened from_zero)
      (subst P same (lawful_by naming.from single opened (map (known moment) (log_by naming.to log)) h))

  pub told_between : (first moment : ℕ) → IsLawfulBetween lined_after opened (log_by naming.to log) first moment →
      IsLawfulBetween lined_after opened log first moment
  told_between first moment h m begun l = told_until m (h m begun l)

  told_lost_after : (moment : ℕ) → IsLostAfter lined_after opened (log_by naming.to log) moment →
      IsLostAfter lined_after opened log moment
  told_lost_after moment h future last c lawful =
      h (log_by naming.to future) last (comes_by naming.to (moment + 1) last future c)
      (moved naming.to there_single last opened opened log (log_by naming.to log) future (log_by naming.to future)
      (state_fixed naming.to opened zero_stays) refl refl lawful)

  told_ends : (at : ℕ) (op : Operation Lined) → EndsThen lined_after opened (log_by naming.to log) at op →
      (o : Operation Lined) × EndsThen lined_after opened log at o × (o.what.line ≡ op.what.line)
  told_ends at op ends =
      let x = of_map (lined_by naming.to) log ends.0.0 op ends.0.1 in (
        x.0,
        ((ends.0.0, x.1), ap (λ (z : Operation Lined). z.ends) x.2 ∙ ends.1),
        ap (λ (z : Operation Lined). z.what.line) x.2,
      )

  pub told_lost : (first at : ℕ) (op : Operation Lined) → IsFirstLost lined_after opened (log_by naming.to log) first at op →
      (o : Operation Lined) × IsFirstLost lined_after opened log first at o × (o.what.line ≡ op.what.line)
  told_lost first at op h =
      let x = told_ends at op h.ends in (
        x.0,
        record { ends = x.1; lawful = told_between first at h.lawful; lost = told_lost_after at h.lost },
        x.2,
      )

  pub told_beyond : (first at : ℕ) → AreTooManyAt lined_after opened (log_by naming.to log) first at →
      AreTooManyAt lined_after opened log first at
  told_beyond first at h =
      let x = told_ends at h.ends.0 h.ends.1 in
      record { ends = (x.0, x.1); lawful = told_between first at h.lawful }
