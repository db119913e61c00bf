-- One end, exact both ways: what is reached leads back to the opening, and what can be finished is kept.
use Rattle.std.proofs.Common.{◌≡◌, ◌≢◌, ℕ, ◌+◌, ◌<◌, ◌≤◌, Bool, true, false, ◌||◌, nat_eq, List, [], ◌∷◌, ◌++◌, length, map, slice_get}
use Rattle.std.proofs.Common.{Option, None, Some, zero, suc, refl, sym, ◌∙◌, ap, subst, arith, ◌⊎◌, inl, inr}
use Rattle.std.proofs.lemmas.Bool.{cases_Bool, cases_eq, cases_lt, or_parts}
use Rattle.std.proofs.lemmas.Option.{same_Some}
use Rattle.history_core.specs.Orders.{times_of}
use Rattle.object_core.specs.declared.operation.Operation.{Operation}
use Rattle.object_core.specs.Logs.{is_due}
use Rattle.object_sweep.specs.declared.configuration.Configuration.{Configuration}
use Rattle.object_sweep.specs.inner.Steps.{AnyCanFinish, AreTried, AreUnderWay, IsHandled, IsIdle, IsPure, IsPutIn, may_be_left_out}
use Rattle.object_sweep.specs.inner.Steps.{Covers, IsCovered, IsPlacedFor, maybe_of, MayStandFor, step_from}
use Rattle.object_sweep.specs.inner.Steps.IsHandled.{Tries, Places as PlacesPure}
use Rattle.object_sweep.specs.Reached.{is_closed, is_in, IsNextEnd, IsReachable, MayBeLeftOut, without}
use Rattle.object_sweep.specs.Reached.IsReachable.{Opens, Places, Ends}
use Rattle.object_sweep.specs.Rests.{CanFinish, CanPlace, IsRest, MayStandBehind, NoOpenEndBefore, RunForwards}
use Rattle.object_sweep.proofs.Lists.{within, at_is_in, closed_behind, closed_ended, closed_left_out, closed_placed, same_if}
use Rattle.object_sweep.proofs.Placed.{complete_tail, dropped, sound, times_here, undropped}
use Rattle.object_sweep.proofs.InPlace.{in_place, long_renamed, renamed}
use Rattle.object_sweep.proofs.Covering.{has_each}
use Rattle.object_sweep.proofs.Lacking.{lacking_of, lacks_fewer, lacks_no_more}
use Rattle.object_sweep.proofs.Pure.{long_without, shorter, without_idle, without_pure}

module _ {S W : Type 0} (after : S → W → Option S) (log : List (Operation W)) where
  -- what follows depends on what is closed alone
  pub same_rest : (f g : ℕ → Bool) → ((q : ℕ) → f q ≡ g q) → (s : S) (rest : List ℕ) → IsRest after log f s rest → IsRest after log g s rest
  same_rest f g same s rest h = record { listing = listing; precedence = h.precedence; steps = h.steps }
    where
      listing : (p : ℕ) (o : Operation W) → slice_get log p ≡ Some o → MayStandBehind (g p) (is_due o) (times_of p rest)
      listing p o at = let P : Bool → Type 0 = λ b. MayStandBehind b (is_due o) (times_of p rest) in subst P (same p) (h.listing p o at)

  pub same_finish : (f g : ℕ → Bool) → ((q : ℕ) → f q ≡ g q) → (s : S) → CanFinish after log f s → CanFinish after log g s
  same_finish f g same s h = (h.0, same_rest f g same s h.0 h.1)

  -- what is not sure is not due
  module _ (sure : ℕ → Bool) (unsure : (q : ℕ) (o : Operation W) → slice_get log q ≡ Some o → sure q ≡ false → is_due o ≡ false) where
    -- a configuration that can do all that another can has its rests
    pub covered_rests : (ended : List ℕ) (one : Configuration S) (s : S) (placed : List ℕ) → Covers sure one s placed → (rest : List ℕ) →
        IsRest after log (is_closed ended placed) s rest → IsRest after log (is_closed ended one.placed.items) one.state rest
    covered_rests ended one s placed covers rest h =
        let P : S → Type 0 = λ z. IsRest after log (is_closed ended one.placed.items) z rest in
        subst P (sym covers.0) (record { listing = listing; precedence = h.precedence; steps = h.steps })
      where
        by_closed : (e was now due : Bool) (times : ℕ) → (now ≡ true → was ≡ true) → (was ≡ true → now ≡ false → due ≡ false) →
            MayStandBehind (e || was) due times → MayStandBehind (e || now) due times
        by_closed true was now due times more less h = h
        by_closed false true true due times more less h = h
        by_closed false false false due times more less h = h
        by_closed false false true due times more less h = let f = more refl in cc
        by_closed false true false due times more less h =
            let P : Bool → Type 0 = λ z. MayStandBehind false z times in subst P (sym (less refl refl)) (omega (arith, h))

        listing : (p : ℕ) (o : Operation W) → slice_get log p ≡ Some o →
            MayStandBehind (is_closed ended one.placed.items p) (is_due o) (times_of p rest)
        listing p o at =
            by_closed (is_in p ended) (is_in p placed) (is_in p one.placed.items) (is_due o) (times_of p rest)
            (within one.placed.items placed covers.1 p) not_due (h.listing p o at)
          where
            not_due : is_in p placed ≡ true → is_in p one.placed.items ≡ false → is_due o ≡ false
            not_due e f = elim (cases_Bool (sure p)) [
              | inl is ↦ let g = has_each sure one.placed.items placed covers.2 p is e in cc
              | inr isnt ↦ unsure p o at isnt
            ]

    pub covered_finish : (ended : List ℕ) (held : List (Configuration S)) (s : S) (placed : List ℕ) → IsCovered sure held s placed →
        CanFinish after log (is_closed ended placed) s → AnyCanFinish after log ended held
    covered_finish ended held s placed h c = (h.0, h.1, h.2, (c.0, covered_rests ended h.1 s placed h.3 c.0 c.1))

  -- what is reached leads back to the opening
  pub back : (opening : S) {ended : List ℕ} {s : S} {placed : List ℕ} → IsReachable after opening log ended s placed →
      CanFinish after log (is_closed ended placed) s → CanFinish after log (λ q. false) opening
  back opening Opens h = h
  back opening (Places ended before s r place end q t next can) h =
      back opening r (sound after log (is_closed ended before) end last s q t can
      (same_finish (is_closed ended (before ++ q ∷ [])) (λ z. is_closed ended before z || nat_eq z q) (closed_placed ended before q) t h))
    where
      last : NoOpenEndBefore log (is_closed ended before) end
      last z at a free za ends = next.4 z at a (or_parts (is_in z ended) (is_in z before) free).0 za ends
  back opening (Ends before rest s r place end next out) h =
      back opening r (by_in (cases_Bool (is_in place rest)) out)
    where
      by_in : (is_in place rest ≡ true) ⊎ (is_in place rest ≡ false) → (is_in place rest ≡ true) ⊎ MayBeLeftOut log place →
          CanFinish after log (is_closed before rest) s
      by_in (inl e) o = same_finish (is_closed (place ∷ before) (without place rest)) (is_closed before rest)
          (λ z. closed_behind before rest place z e) s h
      by_in (inr e) (inl o) = cc
      by_in (inr e) (inr o) =
          undropped after log (is_closed before rest) place o.0 o.1 o.2 (free (is_in place before) (is_in place rest) next.3 e) s
          (same_finish (is_closed (place ∷ before) (without place rest)) (λ z. is_closed before rest z || nat_eq z place)
          (λ z. closed_left_out before rest place z e) s h)
        where
          free : (a b : Bool) → a ≡ false → b ≡ false → (a || b) ≡ false
          free false b f g = g
          free true b f g = cc

  -- what can be finished is kept
  module _ (sure : ℕ → Bool) (unsure : (q : ℕ) (o : Operation W) → slice_get log q ≡ Some o → sure q ≡ false → is_due o ≡ false)
      (forwards : RunForwards log) (ended : List ℕ) (ending end : ℕ) (next : IsNextEnd log ended ending end) (under_way : List ℕ)
      (way : AreUnderWay log under_way ended end) (waiting kept : List (Configuration S))
      (lacking : (i : ℕ) (one : Configuration S) → slice_get waiting i ≡ Some one → is_in ending one.placed.items ≡ false)
      (handled : (i : ℕ) (one : Configuration S) → slice_get waiting i ≡ Some one →
      IsHandled sure after log under_way ending one.state one.placed.items waiting kept) where
    left_out : (one : Configuration S) → AreTried sure after log under_way ending one.state one.placed.items waiting kept →
        is_in ending one.placed.items ≡ false → (rest : List ℕ) →
        IsRest after log (is_closed ended one.placed.items) one.state rest → times_of ending rest ≡ 0 →
        AnyCanFinish after log (ending ∷ ended) kept
    left_out one done lack rest h none =
        let free : is_closed ended one.placed.items ending ≡ false = open_yet (is_in ending ended) (is_in ending one.placed.items) next.3
        lack in
        let d = dropped after log (is_closed ended one.placed.items) ending end next.0 next.1 next.2 one.state rest h none free in
        let may : may_be_left_out log ending ≡ true = ap maybe_of next.1 ∙ d.0 in
        covered_finish sure unsure (ending ∷ ended) kept one.state one.placed.items (done.left_out may)
        (same_finish (λ z. is_closed ended one.placed.items z || nat_eq z ending) (is_closed (ending ∷ ended) one.placed.items)
        (λ z. sym (closed_ended ended one.placed.items ending z)) one.state d.1)
      where
        open_yet : (a b : Bool) → a ≡ false → b ≡ false → (a || b) ≡ false
        open_yet false b f g = g
        open_yet true b f g = cc

    -- what the operation leads to that is placed next
    module _ (one : Configuration S) (q : ℕ) (t : S) (put : IsPutIn sure (nat_eq q ending) q t one.placed.items waiting kept) (rest : List
        ℕ)
        (r : IsRest after log (λ z. is_closed ended one.placed.items z || nat_eq z q) t rest) where
      ends_it : nat_eq q ending ≡ true → AnyCanFinish after log (ending ∷ ended) kept
      ends_it e =
          let same : (z : ℕ) → (is_closed ended one.placed.items z || nat_eq z q) ≡ is_closed (ending ∷ ended) one.placed.items z =
          λ z. ap (λ b. is_closed ended one.placed.items z || nat_eq z b) (same_if q ending e)
          ∙ sym (closed_ended ended one.placed.items ending z) in
          covered_finish sure unsure (ending ∷ ended) kept t one.placed.items (subst (λ b. IsPutIn sure b q t one.placed.items waiting
          kept) e put)
          (same_finish (λ z. is_closed ended one.placed.items z || nat_eq z q) (is_closed (ending ∷ ended) one.placed.items) same t (
            rest,
            r,
          ))

      waits : nat_eq q ending ≡ false → (i : ℕ) × (other : Configuration S) × (slice_get waiting i ≡ Some other)
          × IsRest after log (is_closed ended other.placed.items) other.state rest
          × ((z : ℕ) → sure z ≡ true → is_in z (one.placed.items ++ q ∷ []) ≡ true → is_in z other.placed.items ≡ true)
      waits e =
          let held : IsCovered sure waiting t (one.placed.items ++ q ∷ []) = subst (λ b. IsPutIn sure b q t one.placed.items waiting kept)
          e put in
          let there = same_rest (λ z. is_closed ended one.placed.items z || nat_eq z q) (is_closed ended (one.placed.items ++ q ∷ []))
          (λ z. sym (closed_placed ended one.placed.items q z)) t rest r in (
            held.0,
            held.1,
            held.2,
            covered_rests sure unsure ended held.1 t (one.placed.items ++ q ∷ []) held.3 rest there,
            has_each sure held.1.placed.items (one.placed.items ++ q ∷ []) held.3.2,
          )

      goes_on : ((i : ℕ) (other : Configuration S) → slice_get waiting i ≡ Some other →
          IsRest after log (is_closed ended other.placed.items) other.state rest →
          ((z : ℕ) → sure z ≡ true → is_in z (one.placed.items ++ q ∷ []) ≡ true → is_in z other.placed.items ≡ true) →
          AnyCanFinish after log (ending ∷ ended) kept) →
          AnyCanFinish after log (ending ∷ ended) kept
      goes_on more = elim (cases_Bool (nat_eq q ending)) [
        | inl e ↦ ends_it e
        | inr e ↦ let w = waits e in more w.0 w.1 w.2 w.3 w.4
      ]

    -- where a rest is shorter, or more is placed, something is kept
    abbrev KeepsSmaller : ℕ → Type 0
    KeepsSmaller size = (i : ℕ) (one : Configuration S) → slice_get waiting i ≡ Some one → (less : List ℕ) →
        IsRest after log (is_closed ended one.placed.items) one.state less →
        length less + lacking_of sure under_way one.placed.items < size → AnyCanFinish after log (ending ∷ ended) kept

    -- where all is tried the first of the rest goes on, or it is idle, and the rest does without it
    tries : (j : ℕ) (one : Configuration S) → slice_get waiting j ≡ Some one →
        AreTried sure after log under_way ending one.state one.placed.items waiting kept →
        is_in ending one.placed.items ≡ false → (rest : List ℕ) → IsRest after log (is_closed ended one.placed.items) one.state rest →
        KeepsSmaller (length rest + lacking_of sure under_way one.placed.items) → AnyCanFinish after log (ending ∷ ended) kept
    tries j one there done lack [] h more = left_out one done lack [] h refl
    tries j one there done lack (q ∷ rest) h more = elim (cases_lt 0 (times_of ending (q ∷ rest))) [
      | inr le ↦ left_out one done lack (q ∷ rest) h (omega arith)
      | inl l ↦
          let c = complete_tail after log forwards (is_closed ended one.placed.items) end ending next.0 next.1 next.2 one.state q rest h l
          in
          elim (put c.0 c.1) [
            | inl idle ↦ does_without c.1.0 c.1.1 (subst (λ (z : Option (Operation W)). IsIdle after z) c.1.1 idle)
            | inr p ↦ placed_for c.0 c.1 c.2 p
          ]
    ]
      where
        does_without : (o : Operation W) → slice_get log q ≡ Some o → IsIdle after (Some o) → AnyCanFinish after log (ending ∷ ended) kept
        does_without o at idle =
            let stands : 0 < times_of q (q ∷ rest) = let e = times_here q rest in omega (arith, e) in
            more j one there (without q (q ∷ rest)) (without_idle after log q o at idle.1 idle.0 (is_closed ended one.placed.items)
            one.state (q ∷ rest) h) (let l = shorter q (q ∷ rest) stands in omega (arith, l))

        goes_with : (t : S) → IsPutIn sure (nat_eq q ending) q t one.placed.items waiting kept →
            IsRest after log (λ z. is_closed ended one.placed.items z || nat_eq z q) t rest → AnyCanFinish after log (ending ∷ ended) kept
        goes_with t held r = goes_on one q t held rest r (λ i other at r' w. more i other at rest r'
            (let l = lacks_no_more sure one.placed.items q other.placed.items w under_way in omega (arith, l)))

        placed_for : (t : S) → CanPlace after log (is_closed ended one.placed.items) end one.state q t →
            IsRest after log (λ z. is_closed ended one.placed.items z || nat_eq z q) t rest →
            IsPlacedFor sure after log under_way ending one.placed.items q t waiting kept → AnyCanFinish after log (ending ∷ ended) kept
        placed_for t can r (p, inl same, held) =
            let P : ℕ → Type 0 = λ z. IsPutIn sure (nat_eq z ending) z t one.placed.items waiting kept in goes_with t (subst P same held) r
        placed_for t can r (p, inr for, held) = elim (cases_eq p q) [
          | inl same ↦
              let P : ℕ → Type 0 = λ z. IsPutIn sure (nat_eq z ending) z t one.placed.items waiting kept in
              goes_with t (subst P same held) r
          | inr ne ↦ in_place_of (slice_get log p) (slice_get log q) refl refl for.2 ne
        ]
          where
            free : is_closed ended one.placed.items p ≡ false
            free = both (is_in p ended) (is_in p one.placed.items) (way.begun p for.0).3 for.1
              where
                both : (a b : Bool) → a ≡ false → b ≡ false → (a || b) ≡ false
                both false b f g = g
                both true b f g = cc

            last : NoOpenEndBefore log (is_closed ended one.placed.items) end
            last z at a yet za ends = next.4 z at a (or_parts (is_in z ended) (is_in z one.placed.items) yet).0 za ends

            in_place_of : (m n : Option (Operation W)) → slice_get log p ≡ m → slice_get log q ≡ n → MayStandFor after p q m n → p ≢ q →
                AnyCanFinish after log (ending ∷ ended) kept
            in_place_of (Some a) (Some b) pa qb h ne =
                let starts : b.starts ≤ end =
                subst (λ (z : Operation W). z.starts ≤ end) (same_Some can.0 b (sym can.1 ∙ qb)) can.3 in
                goes_on one p t held (map (renamed p q) rest) (in_place after log forwards p q a b pa qb h.0 ne
                (is_closed ended one.placed.items) end last starts can.2 free t rest r) (λ i other at r' w. more i other at
                (map (renamed p q) rest) r' (let l = long_renamed p q rest in
                let m = lacks_no_more sure one.placed.items p other.placed.items w under_way in omega (arith, l, m)))
            in_place_of (Some a) None pa qb h ne = absurd h
            in_place_of None n pa qb h ne = absurd h

        put : (t : S) → CanPlace after log (is_closed ended one.placed.items) end one.state q t →
            IsIdle after (slice_get log q) ⊎ IsPlacedFor sure after log under_way ending one.placed.items q t waiting kept
        put t can =
            let open_parts = or_parts (is_in q ended) (is_in q one.placed.items) can.2 in
            let stepped : step_from after log one.state one.placed.items q ≡ Some t = rw (open_parts.1, can.1) can.4 in
            let a = at_is_in under_way q (way.all q can.0 can.1 can.3 open_parts.0) in done.tried a.0 q t a.1 stepped

    -- where a pure operation is placed the rest without it goes on
    places : (one : Configuration S) (q : ℕ) (o : Operation W) (t : S) → slice_get log q ≡ Some o → sure q ≡ true → IsPure after o →
        is_in q under_way ≡ true → is_in q one.placed.items ≡ false → after one.state o.what ≡ Some t →
        IsPutIn sure (nat_eq q ending) q t one.placed.items waiting kept → (rest : List ℕ) →
        IsRest after log (is_closed ended one.placed.items) one.state rest →
        KeepsSmaller (length rest + lacking_of sure under_way one.placed.items) → AnyCanFinish after log (ending ∷ ended) kept
    places one q o t at is pure there lack step put rest h more =
        goes_on one q t put (without q rest) placed (λ i other e r w. more i other e (without q rest) r
        (let l = long_without q rest in
        let m = lacks_fewer sure one.placed.items q other.placed.items w under_way is there lack in omega (arith, l, m)))
      where
        placed : IsRest after log (λ z. is_closed ended one.placed.items z || nat_eq z q) t (without q rest)
        placed =
            let P : S → Type 0 = λ z. IsRest after log (λ r. is_closed ended one.placed.items r || nat_eq r q) z (without q rest) in
            let still : t ≡ one.state = pure one.state t step in
            subst P (sym still) (without_pure after log q o at pure (is_closed ended one.placed.items) one.state rest h)

    keeps : (j : ℕ) (one : Configuration S) → slice_get waiting j ≡ Some one →
        IsHandled sure after log under_way ending one.state one.placed.items waiting kept →
        is_in ending one.placed.items ≡ false → (rest : List ℕ) → IsRest after log (is_closed ended one.placed.items) one.state rest →
        KeepsSmaller (length rest + lacking_of sure under_way one.placed.items) → AnyCanFinish after log (ending ∷ ended) kept
    keeps j one e (Tries done) lack rest h more = tries j one e done lack rest h more
    keeps j one e (PlacesPure q o t at is pure there free step put) lack rest h more =
        places one q o t at is pure there free step put rest h more

    pub finished : (n i : ℕ) (one : Configuration S) → slice_get waiting i ≡ Some one → (rest : List ℕ) →
        IsRest after log (is_closed ended one.placed.items) one.state rest →
        length rest + lacking_of sure under_way one.placed.items ≤ n → AnyCanFinish after log (ending ∷ ended) kept
    finished zero i one at rest h few =
        keeps i one at (handled i one at) (lacking i one at) rest h (λ j other e less r l. absurd (omega arith))
    finished (suc n) i one at rest h few =
        keeps i one at (handled i one at) (lacking i one at) rest h (λ j other e less r l. finished n j other e less r (omega arith))
