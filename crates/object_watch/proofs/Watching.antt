-- What is held of a log that is watched: as it is opened, with one more operation, and up to a moment.
use Rattle.std.proofs.Common.{◌≡◌, ◌≢◌, ℕ, zero, suc, ◌+◌, ◌<◌, ◌≤◌, List, [], ◌∷◌, ◌++◌, length, map, set, get_or, slice_get}
use Rattle.std.proofs.Common.{Option, None, Some, refl, sym, ◌∙◌, ap, subst, arith, ◌⊎◌, inl, inr, ◌↔◌, nat_le, cond, false}
use Rattle.std.proofs.lemmas.Bool.{cases_lt}
use Rattle.std.proofs.lemmas.Bool.Decides.{nat_tests}
use Rattle.std.proofs.lemmas.List.{append_assoc, length-set, get_or-set_other, get_or-set_same}
use Rattle.std.proofs.lemmas.Option.{same_Some, slice_get_within, slice_get-get_or}
use Rattle.object_core.specs.declared.operation.Operation.{Operation}
use Rattle.object_core.specs.Logs.{IsLinearizable}
use Rattle.object_sweep.specs.Rests.{RunForwards}
use Rattle.object_sweep.proofs.Lists.{get_front, get_last, get_push}
use Rattle.object_sweep.proofs.Whole.{last_end, opened}
use Rattle.object_watch.specs.Remainders.{AnyLawfulWith, AreAhead, AreHeldWith, ComesFrom, IsLawfulWith, IsOneOfLog, IsOfOne, known}
use Rattle.object_watch.specs.Remainders.{known_end}
use Rattle.object_watch.specs.Watches.{AreOpenedAs, AreTooManyAt, IsHeldOf, IsLawfulBetween, IsLawfulUntil, IsLostAfter, IsFirstLost}
use Rattle.object_watch.specs.declared.ends.End.{End}
use Rattle.object_watch.specs.declared.remainder.Remainder.{Remainder}
use Rattle.object_watch.specs.inner.Levels.{AreLeftBehind, AreTaken, IsNeedless, IsSoonestEnd, NoneIsOverBefore}
use Rattle.object_watch.proofs.Going.{of_map}
use Rattle.object_watch.proofs.Within.{idle_out}

-- what is ahead of a moment is ahead of each sooner one
pub ahead_at_all : {S W : Type 0} (m n : ℕ) (held : List (Remainder S W)) → m ≤ n → AreAhead n held → AreAhead m held
ahead_at_all m n held le h i one e = record {
  ends = λ p at o f g. (let l = (h i one e).ends p at o f g in omega (arith, l, le));
  forwards = (h i one e).forwards;
}

module _ {S W : Type 0} where
  -- what runs forwards is ahead of each moment before which nothing ends
  pub none_ahead : (end : ℕ) (held : List (Remainder S W)) → NoneIsOverBefore end held → AreAhead 0 held → AreAhead end held
  none_ahead end held h a i one e = record { ends = λ p at o f g. h i p at one o e f g; forwards = (a i one e).forwards }

  pub ahead_none : (end : ℕ) (held : List (Remainder S W)) → AreAhead end held → NoneIsOverBefore end held
  ahead_none end held a i p at one o e f g = (a i one e).ends p at o f g

-- an entry that is put in a place, and the others
set_here : {X : Type 0} (xs : List X) (i : ℕ) (x : X) → i < length xs → slice_get (set xs i x) i ≡ Some x
set_here xs i x l =
    let long = length-set xs i x in
    slice_get-get_or (set xs i x) i x (omega (arith, l, long)) ∙ ap Some (get_or-set_same xs i x x l)

set_there : {X : Type 0} (xs : List X) (i j : ℕ) (x y : X) → j ≢ i → slice_get xs j ≡ Some y → slice_get (set xs i x) j ≡ Some y
set_there xs i j x y ne e =
    let l = slice_get_within xs j y e in
    let long = length-set xs i x in
    let same : y ≡ get_or xs j y = same_Some y (get_or xs j y) (sym e ∙ slice_get-get_or xs j y l) in
    slice_get-get_or (set xs i x) j y (omega (arith, l, long)) ∙ ap Some (get_or-set_other xs i j x y ne ∙ sym same)

module _ {S W : Type 0} where
  -- to none of them it was added
  pub held_same : (op : Operation W) (held : List (Remainder S W)) → AreHeldWith op held held
  held_same op held = record { states = λ i one e. (one, e, refl); operations = λ o x. inl x }

  -- one more has the operation
  pub taken_more : (n : ℕ) (op : Operation W) (old mid : List (Remainder S W)) (one : Remainder S W) → slice_get mid n ≡ Some one →
      AreTaken n op old mid → (new : Remainder S W) → new.state ≡ one.state → new.rest.items ≡ one.rest.items ++ op ∷ [] →
      AreTaken (n + 1) op old (set mid n new)
  taken_more n op old mid one at h new is_state is_rest = record {
    long = length-set mid n new ∙ h.long;
    taken = taken;
    still = still;
  }
    where
      inside : n < length mid
      inside = slice_get_within mid n one at

      taken : (i : ℕ) (x : Remainder S W) → i < n + 1 → slice_get old i ≡ Some x → (other : Remainder S W)
          × (slice_get (set mid n new) i ≡ Some other) × (other.state ≡ x.state) × (other.rest.items ≡ x.rest.items ++ op ∷ [])
      taken i x l e = elim (cases_lt i n) [
        | inl less ↦
            let t = h.taken i x less e in
            (t.0, set_there mid n i new t.0 (λ s. omega (arith, less, s)) t.1, t.2, t.3)
        | inr le ↦
            let here : i ≡ n = omega (arith, l, le) in
            let m = h.still i x le e in
            let same : one ≡ x = same_Some one x (sym at ∙ (ap (slice_get mid) (sym here) ∙ m)) in (
              new,
              ap (slice_get (set mid n new)) here ∙ set_here mid n new inside,
              is_state ∙ ap (λ (z : Remainder S W). z.state) same,
              is_rest ∙ ap (λ (z : Remainder S W). z.rest.items ++ op ∷ []) same,
            )
      ]

      still : (i : ℕ) (x : Remainder S W) → n + 1 ≤ i → slice_get old i ≡ Some x → slice_get (set mid n new) i ≡ Some x
      still i x l e = set_there mid n i new x (λ s. omega (arith, l, s)) (h.still i x (omega (arith, l)) e)

  pub taken_none : (op : Operation W) (old : List (Remainder S W)) → AreTaken 0 op old old
  taken_none op old = record { long = refl; taken = λ i one l e. absurd (omega (arith, l)); still = λ i one l e. e }

  -- to all of them an operation is added that runs forwards
  module _ (op : Operation W) (forwards : (end : ℕ) → op.ends ≡ Some end → op.starts ≤ end) (old new : List (Remainder S W)) (n : ℕ)
      (all : length old ≤ n) (t : AreTaken n op old new) where
    -- where one of the new ones comes from
    pub from : (i : ℕ) (x : Remainder S W) → slice_get new i ≡ Some x → (one : Remainder S W)
        × (slice_get old i ≡ Some one) × (x.state ≡ one.state) × (x.rest.items ≡ one.rest.items ++ op ∷ [])
    from i x e =
        let l = slice_get_within new i x e in
        let long = t.long in
        let there : slice_get old i ≡ Some (get_or old i x) =
        slice_get-get_or old i x (omega (arith, l, long)) in
        let m = t.taken i (get_or old i x) (omega (arith, l, long, all)) there in
        let same : m.0 ≡ x = same_Some m.0 x (sym m.1 ∙ e) in (
          get_or old i x,
          there,
          ap (λ (z : Remainder S W). z.state) (sym same) ∙ m.2,
          ap (λ (z : Remainder S W). z.rest.items) (sym same) ∙ m.3,
        )

    pub held_with : AreHeldWith op old new
    held_with = record {
      states = λ i x e. (let m = from i x e in (m.0, m.1, m.2));
      operations = operations;
    }
      where
        operations : (o : Operation W) → IsOfOne new o → IsOfOne old o ⊎ (o ≡ op)
        operations o (i, x, e, pf) =
            let m = from i x e in
            elim (get_push m.0.rest.items op pf.0 o (ap (λ zs. slice_get zs pf.0) (sym m.3) ∙ pf.1)) [
              | inl was ↦ inl (i, m.0, m.1, (pf.0, was))
              | inr is ↦ inr (sym is.1)
            ]

    pub taken_ahead : (moment : ℕ) → moment ≤ op.starts → AreAhead moment old → AreAhead moment new
    taken_ahead moment begins h i x e = record { ends = ends; forwards = forth }
      where
        which : (p : ℕ) (o : Operation W) → slice_get x.rest.items p ≡ Some o →
            ((q : ℕ) × (slice_get (from i x e).0.rest.items q ≡ Some o)) ⊎ (op ≡ o)
        which p o f =
            let m = from i x e in
            elim (get_push m.0.rest.items op p o (ap (λ zs. slice_get zs p) (sym m.3) ∙ f)) [
              | inl was ↦ inl (p, was)
              | inr is ↦ inr is.1
            ]

        ends : (p at : ℕ) (o : Operation W) → slice_get x.rest.items p ≡ Some o → o.ends ≡ Some at → moment ≤ at
        ends p at o f g = elim (which p o f) [
          | inl was ↦ (h i (from i x e).0 (from i x e).1).ends was.0 at o was.1 g
          | inr is ↦
              let l = forwards at (ap (λ (z : Operation W). z.ends) is ∙ g) in omega (arith, l, begins)
        ]

        forth : (p at : ℕ) (o : Operation W) → slice_get x.rest.items p ≡ Some o → o.ends ≡ Some at → o.starts ≤ at
        forth p at o f g = elim (which p o f) [
          | inl was ↦ (h i (from i x e).0 (from i x e).1).forwards was.0 at o was.1 g
          | inr is ↦
              let l = forwards at (ap (λ (z : Operation W). z.ends) is ∙ g) in
              let s : op.starts ≡ o.starts = ap (λ (z : Operation W). z.starts) is in omega (arith, l, s)
        ]

-- the only one of these
only_one : {X : Type 0} (xs : List X) (one : X) → xs ≡ one ∷ [] → (i : ℕ) (x : X) → slice_get xs i ≡ Some x → x ≡ one
only_one xs one is i x e = by_place i (ap (λ zs. slice_get zs i) (sym is) ∙ e)
  where
    by_place : (j : ℕ) → slice_get (one ∷ []) j ≡ Some x → x ≡ one
    by_place zero f = sym (same_Some one x f)
    by_place (suc j) f = cc

pub opened_as : {S W : Type 0} (opening : S) (held : List (Remainder S W)) (one : Remainder S W) → held ≡ one ∷ [] →
    one.state ≡ opening → one.rest.items ≡ [] → AreOpenedAs opening held
opened_as {S = S} {W = W} opening held one is is_state is_rest i x e =
    let same = only_one held one is i x e in
    (ap (λ (z : Remainder S W). z.state) same ∙ is_state, ap (λ (z : Remainder S W). z.rest.items) same ∙ is_rest)

module _ {S W : Type 0} (after : S → W → Option S) where
  -- nothing has come yet
  pub watch_opened : (opening : S) (held : List (Remainder S W)) (one : Remainder S W) → held ≡ one ∷ [] → one.state ≡ opening →
      one.rest.items ≡ [] → IsHeldOf after opening [] 0 held
  watch_opened opening held one is is_state is_rest = record { some = some; ahead = ahead; of = of; goes = goes }
    where
      some : 0 < length held
      some = let e = ap length is in omega (arith, e)

      only : (i : ℕ) (x : Remainder S W) → slice_get held i ≡ Some x → x ≡ one
      only i x e = only_one held one is i x e

      of : (o : Operation W) → IsOfOne held o → IsOneOfLog [] o
      of o (i, x, e, pf) =
          let p = pf.0 in
          let f = pf.1 in
          let none : slice_get [] p ≡ Some o = ap (λ zs. slice_get zs p) (sym is_rest)
          ∙ (ap (λ (z : Remainder S W). slice_get z.rest.items p) (sym (only i x e)) ∙ f) in
          cc

      ahead : AreAhead 0 held
      ahead i x e = record {
        ends = λ p at o f g. omega arith;
        forwards = λ p at o f g.
            (let none : slice_get [] p ≡ Some o = ap (λ zs. slice_get zs p) (sym is_rest)
            ∙ (ap (λ (z : Remainder S W). slice_get z.rest.items p) (sym (only i x e)) ∙ f) in cc);
      }

      goes : (future : List (Operation W)) (last : ℕ) → ComesFrom 0 last future →
          (IsLinearizable after opening (map (known last) ([] ++ future)) ↔ AnyLawfulWith after future last held)
      goes future last c = (onward, back)
        where
          onward : IsLinearizable after opening (map (known last) future) → AnyLawfulWith after future last held
          onward h =
              let P : List (Operation W) → Type 0 = λ z. IsLawfulWith after future last opening z in
              let Q : S → Type 0 = λ z. IsLawfulWith after future last z one.rest.items in
              (0, one, ap (λ zs. slice_get zs 0) is, subst Q (sym is_state) (subst P (sym is_rest) h))

          back : AnyLawfulWith after future last held → IsLinearizable after opening (map (known last) future)
          back (i, x, e, h) =
              let P : List (Operation W) → Type 0 = λ z. IsLawfulWith after future last opening z in
              let Q : S → Type 0 = λ z. IsLawfulWith after future last z one.rest.items in
              let R : Remainder S W → Type 0 = λ z. IsLawfulWith after future last z.state z.rest.items in
              subst P is_rest (subst Q is_state (subst R (only i x e) h))

  module _ (opening : S) (log : List (Operation W)) (moment : ℕ) where
    -- one operation more
    pub watch_taken : (op : Operation W) → moment ≤ op.starts → ((end : ℕ) → op.ends ≡ Some end → op.starts ≤ end) →
        (old new : List (Remainder S W)) → (n : ℕ) → length old ≤ n → AreTaken n op old new →
        IsHeldOf after opening log moment old → IsHeldOf after opening (log ++ op ∷ []) moment new
    watch_taken op begins forwards old new n all t w = record {
      some = some;
      ahead = taken_ahead op forwards old new n all t moment begins w.ahead;
      of = of;
      goes = goes;
    }
      where
        of : (o : Operation W) → IsOfOne new o → IsOneOfLog (log ++ op ∷ []) o
        of o (i, x, e, pf) =
            let p = pf.0 in
            let f = pf.1 in
            let m = from op forwards old new n all t i x e in
            elim (get_push m.0.rest.items op p o (ap (λ zs. slice_get zs p) (sym m.3) ∙ f)) [
              | inl was ↦ let l = w.of o (i, m.0, m.1, (p, was)) in (l.0, get_front log (op ∷ []) l.0 o l.1)
              | inr is ↦ (length log, get_last log op ∙ ap Some is.1)
            ]

        some : 0 < length new
        some = let l = w.some in let long = t.long in omega (arith, l, long)

        goes : (future : List (Operation W)) (last : ℕ) → ComesFrom moment last future →
            (IsLinearizable after opening (map (known last) ((log ++ op ∷ []) ++ future)) ↔ AnyLawfulWith after future last new)
        goes future last c = (onward, back)
          where
            more : ComesFrom moment last (op ∷ future)
            more = record { later = c.later; begins = first; forwards = forth }
              where
                first : (i : ℕ) (o : Operation W) → slice_get (op ∷ future) i ≡ Some o → moment ≤ o.starts
                first zero o f =
                    let s : op.starts ≡ o.starts = ap (λ (z : Operation W). z.starts) (same_Some op o f) in omega (arith, begins, s)
                first (suc i) o f = c.begins i o f

                forth : RunForwards (op ∷ future)
                forth zero end o f g =
                    let same = same_Some op o f in
                    let s : op.starts ≡ o.starts = ap (λ (z : Operation W). z.starts) same in
                    let l = forwards end (ap (λ (z : Operation W). z.ends) same ∙ g) in omega (arith, l, s)
                forth (suc i) end o f g = c.forwards i end o f g

            onward : IsLinearizable after opening (map (known last) ((log ++ op ∷ []) ++ future)) →
                AnyLawfulWith after future last new
            onward h =
                let P : List (Operation W) → Type 0 = λ z. IsLinearizable after opening (map (known last) z) in
                let a = (w.goes (op ∷ future) last more).0 (subst P (append_assoc log (op ∷ []) future) h) in
                let l = slice_get_within old a.0 a.1 a.2 in
                let m = t.taken a.0 a.1 (omega (arith, l, all)) a.2 in
                let Q : List (Operation W) → Type 0 = λ z. IsLinearizable after a.1.state (map (known last) z) in
                let R : List (Operation W) → Type 0 = λ z. IsLawfulWith after future last a.1.state z in
                let V : S → Type 0 = λ z. IsLawfulWith after future last z m.0.rest.items in
                (a.0, m.0, m.1, subst V (sym m.2) (subst R (sym m.3) (subst Q (sym (append_assoc a.1.rest.items (op ∷ []) future)) a.3)))

            back : AnyLawfulWith after future last new →
                IsLinearizable after opening (map (known last) ((log ++ op ∷ []) ++ future))
            back (i, x, e, h) =
                let m = from op forwards old new n all t i x e in
                let P : List (Operation W) → Type 0 = λ z. IsLinearizable after opening (map (known last) z) in
                let Q : List (Operation W) → Type 0 = λ z. IsLinearizable after m.0.state (map (known last) z) in
                let R : List (Operation W) → Type 0 = λ z. IsLawfulWith after future last m.0.state z in
                let V : S → Type 0 = λ z. IsLawfulWith after future last z x.rest.items in
                subst P (sym (append_assoc log (op ∷ []) future)) ((w.goes (op ∷ future) last more).1
                (i, m.0, m.1, subst Q (append_assoc m.0.rest.items (op ∷ []) future) (subst R m.3 (subst V m.2 h))))

    -- one that no order needs
    pub watch_idle : (op : Operation W) → IsNeedless after op → (held : List (Remainder S W)) → IsHeldOf after opening log moment held →
        IsHeldOf after opening (log ++ op ∷ []) moment held
    watch_idle op idle held w = record {
      some = w.some;
      ahead = w.ahead;
      of = λ o x. (let l = w.of o x in (l.0, get_front log (op ∷ []) l.0 o l.1));
      goes = goes;
    }
      where
        goes : (future : List (Operation W)) (last : ℕ) → ComesFrom moment last future →
            (IsLinearizable after opening (map (known last) ((log ++ op ∷ []) ++ future)) ↔ AnyLawfulWith after future last held)
        goes future last c = (
          λ h. (w.goes future last c).0 ((idle_out after future last log future op idle opening).0
              (subst P (append_assoc log (op ∷ []) future) h)),
          λ h. subst P (sym (append_assoc log (op ∷ []) future))
              ((idle_out after future last log future op idle opening).1 ((w.goes future last c).1 h)),
        )
          where
            P : List (Operation W) → Type 0
            P z = IsLinearizable after opening (map (known last) z)

    -- nothing that is held ends by a moment: the log is lawful by then
    pub watch_lawful : (held : List (Remainder S W)) → IsHeldOf after opening log moment held → (end : ℕ) → NoneIsOverBefore end held →
        (m : ℕ) → moment ≤ m + 1 → m < end → IsLawfulUntil after opening log m
    watch_lawful held w end ahead m begun l =
        let one : Remainder S W = get_or held 0 (first held w.some) in
        let at : slice_get held 0 ≡ Some one = slice_get-get_or held 0 (first held w.some) w.some in
        let a : AnyLawfulWith after [] m held = (0, one, at, none one (λ p n o e f. ahead 0 p n one o at e f)) in
        let P : List (Operation W) → Type 0 = λ z. IsLinearizable after opening (map (known m) z) in
        subst P (behind log) ((w.goes [] m comes).1 a)
      where
        first : (xs : List (Remainder S W)) → 0 < length xs → Remainder S W
        first [] h = absurd (omega (arith, h))
        first (x ∷ xs) h = x

        behind : {X : Type 0} (xs : List X) → xs ++ [] ≡ xs
        behind [] = refl
        behind (x ∷ xs) = ap (λ zs. x ∷ zs) (behind xs)

        comes : ComesFrom {W = W} moment m []
        comes = record { later = begun; begins = λ i o e. cc; forwards = λ i e o f g. cc }

        none : (one : Remainder S W) → ((p at : ℕ) (o : Operation W) → slice_get one.rest.items p ≡ Some o → o.ends ≡ Some at → end ≤ at) →
            IsLawfulWith after [] m one.state one.rest.items
        none one h =
            (opened after one.state (map (known m) (one.rest.items ++ []))).0
            (last_end after (map (known m) (one.rest.items ++ [])) (λ q. false) one.state ends)
          where
            ends : (p : ℕ) (o : Operation W) → slice_get (map (known m) (one.rest.items ++ [])) p ≡ Some o → false ≡ false → o.ends ≡ None
            ends p o e f =
                let x = of_map (known m) (one.rest.items ++ []) p o e in
                let there : slice_get one.rest.items p ≡ Some x.0 = ap (λ zs. slice_get zs p) (sym (behind one.rest.items)) ∙ x.1 in
                sym (ap (λ (z : Operation W). z.ends) x.2) ∙ by_end x.0.ends (λ at is. h p at x.0 there is)
              where
                by_end : (ends : Option ℕ) → ((at : ℕ) → ends ≡ Some at → end ≤ at) → known_end m ends ≡ None
                by_end None g = refl
                by_end (Some at) g =
                    let late = g at refl in
                    let no : nat_le at m ≡ false = grind (arith, nat_tests) in ap (λ b. cond b (Some at) None) no

  module _ (opening : S) (log : List (Operation W)) where
    -- from a later moment on fewer operations may come
    sooner : (floor moment last : ℕ) (future : List (Operation W)) → floor ≤ moment → ComesFrom moment last future →
        ComesFrom floor last future
    sooner floor moment last future le c = record {
      later = (let l = c.later in omega (arith, l, le));
      begins = λ i o e. (let l = c.begins i o e in omega (arith, l, le));
      forwards = c.forwards;
    }

    -- what is left behind an end is held of the log
    watch_passed : (floor end : ℕ) (old new : List (Remainder S W)) → IsHeldOf after opening log floor old → floor ≤ end →
        AreLeftBehind after end old new → 0 < length new → IsHeldOf after opening log (end + 1) new
    watch_passed floor end old new w le h some = record {
      some = some;
      ahead = h.ahead;
      of = λ o x. w.of o (h.of.operations o x);
      goes = λ future last c. (
        λ x. (h.goes future last c).1 ((w.goes future last (comes last future c)).0 x),
        λ x. (w.goes future last (comes last future c)).1 ((h.goes future last c).0 x),
      );
    }
      where
        comes : (last : ℕ) (future : List (Operation W)) → ComesFrom (end + 1) last future → ComesFrom floor last future
        comes last future c = sooner floor (end + 1) last future (omega (arith, le)) c

    -- or nothing is left
    watch_lost : (floor end : ℕ) (old new : List (Remainder S W)) → IsHeldOf after opening log floor old → floor ≤ end →
        AreLeftBehind after end old new → length new ≤ 0 → IsLostAfter after opening log end
    watch_lost floor end old new w le h none future last c lawful =
        let x = (h.goes future last c).1 ((w.goes future last (sooner floor (end + 1) last future (omega (arith, le)) c)).0 lawful) in
        let l = slice_get_within new x.0 x.1 x.2 in absurd (omega (arith, l, none))

    -- no end is sooner than this
    pub watch_until : (floor last : ℕ) (held : List (Remainder S W)) → IsHeldOf after opening log floor held → floor ≤ last + 1 →
        AreAhead (last + 1) held → IsHeldOf after opening log (last + 1) held
    watch_until floor last held w le ahead = record {
      some = w.some;
      ahead = ahead;
      of = w.of;
      goes = λ future m c. w.goes future m (sooner floor (last + 1) m future le c);
    }

  module _ (opening : S) (log : List (Operation W)) (moment last : ℕ) where
    -- what the loop keeps
    pub record Rises (held : List (Remainder S W)) : Type 0 where
      pub floor : ℕ
      pub high : floor ≤ last + 1
      pub is : IsHeldOf after opening log floor held
      pub lawful : IsLawfulBetween after opening log moment floor

    pub rises_first : (held : List (Remainder S W)) → moment ≤ last + 1 → IsHeldOf after opening log moment held → Rises held
    rises_first held le w = record {
      floor = moment;
      high = le;
      is = w;
      lawful = λ m begun l. watch_lawful opening log moment held w moment (ahead_none moment held w.ahead) m begun l;
    }

    -- by each moment before an end
    before : (held : List (Remainder S W)) → Rises held → (end : ℕ) → NoneIsOverBefore end held →
        IsLawfulBetween after opening log moment end
    before held r end ahead m begun l = elim (cases_lt m r.floor) [
      | inl less ↦ r.lawful m begun less
      | inr le ↦ watch_lawful opening log r.floor held r.is end ahead m (omega (arith, le)) l
    ]

    module _ (old : List (Remainder S W)) (r : Rises old) (end : End W) (next : IsSoonestEnd last old end) where
      below : r.floor ≤ end.at
      below =
          let x = next.of in
          (r.is.ahead x.0 x.1 x.2).ends x.3.0 end.at end.op x.3.1 next.ends

      ends : IsOneOfLog log end.op × (end.op.ends ≡ Some end.at)
      ends = (r.is.of end.op next.of, next.ends)

      pub rises_more : (new : List (Remainder S W)) → AreLeftBehind after end.at old new → 0 < length new → Rises new
      rises_more new h some =
          let w = watch_passed opening log r.floor end.at old new r.is below h some in
          let by = next.by in record {
            floor = end.at + 1;
            high = omega (arith, by);
            is = w;
            lawful = λ m begun l. (elim (cases_lt m end.at) [
              | inl less ↦ before old r end.at next.first m begun less
              | inr ge ↦ watch_lawful opening log (end.at + 1) new w (end.at + 1) (ahead_none (end.at + 1) new w.ahead) m
                  (omega (arith, ge)) l
            ]);
          }

      pub rises_lost : (new : List (Remainder S W)) → AreLeftBehind after end.at old new → length new ≤ 0 →
          (end.at ≤ last) × IsFirstLost after opening log moment end.at end.op
      rises_lost new h none = (
        next.by,
        record {
          ends = ends;
          lawful = before old r end.at next.first;
          lost = watch_lost opening log r.floor end.at old new r.is below h none;
        },
      )

      pub rises_too_many : (end.at ≤ last) × AreTooManyAt after opening log moment end.at
      rises_too_many = (next.by, record { ends = (end.op, ends); lawful = before old r end.at next.first })

    pub rises_done : (held : List (Remainder S W)) → Rises held → NoneIsOverBefore (last + 1) held → AreAhead 0 held →
        IsHeldOf after opening log (last + 1) held × IsLawfulBetween after opening log moment (last + 1)
    rises_done held r none ahead = (
      watch_until opening log r.floor last held r.is r.high (none_ahead (last + 1) held none ahead),
      before held r (last + 1) none,
    )
