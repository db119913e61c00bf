-- The front behind one more event.
use Rattle.std.proofs.Common.{◌≡◌, ◌≢◌, ℕ, ◌+◌, ◌<◌, ◌≤◌, Bool, true, false, ◌||◌, ◌&&◌, not, cond, nat_eq, List, [], ◌∷◌, ◌++◌}
use Rattle.std.proofs.Common.{length, slice_get, take}
use Rattle.std.proofs.Common.{Option, None, Some, zero, suc, refl, sym, ◌∙◌, ap, subst, add-one, arith, ◌⊎◌, inl, inr}
use Rattle.std.proofs.lemmas.Bool.{and_parts, cases_Bool, cases_eq, cases_lt, or_cases, or_parts}
use Rattle.std.proofs.lemmas.Option.{same_Some, slice_get_within}
use Rattle.object_core.specs.declared.operation.Operation.{Operation}
use Rattle.object_core.specs.Logs.{IsLinearizable}
use Rattle.object_sweep.specs.declared.configuration.Configuration.{Configuration}
use Rattle.object_sweep.specs.declared.event.Event.{Event}
use Rattle.object_sweep.specs.declared.log_sweep.Verdict.{Verdict}
use Rattle.object_sweep.specs.declared.log_sweep.Verdict.TheVariants.{Lawful, Unlawful, TooMany}
use Rattle.object_sweep.specs.inner.Cuts.{EndsAt, IsLogCut, KeepsEnds}
use Rattle.object_sweep.specs.inner.Ends.{AreAlwaysTooMany, IsEventPassed, IsOn}
use Rattle.object_sweep.specs.inner.Events.{AreEvents, begins, ends, IsEventAmong, IsEvent, IsOpened, IsFrontBehind, ComesNoLater}
use Rattle.object_sweep.specs.inner.Steps.{AnyCanFinish, AreUnderWay, IsPassed}
use Rattle.object_sweep.specs.Reached.{AreReachable, AreTooMany, is_closed, is_in, IsLostAt, IsNextEnd, IsReachable, MayBeLeftOut, without}
use Rattle.object_sweep.specs.Reached.IsReachable.{Opens, Ends}
use Rattle.object_sweep.specs.Rests.{CanFinish, NoOpenEndBefore, RunForwards}
use Rattle.object_sweep.specs.Verdicts.{IsSweepVerdict}
use Rattle.object_sweep.proofs.Cuts.{AreFirst, before_end, cut_next, cut_reached, IsBeforeEnd, keeps_ends, no_other_end, so_far}
use Rattle.object_sweep.proofs.Cuts.{so_far_is_cut, whole}
use Rattle.object_sweep.proofs.Exact.{back}
use Rattle.object_sweep.proofs.Lists.{get_front, get_last, get_push, is_in_push, same_if, without_other}
use Rattle.object_sweep.proofs.Placed.{or_right, other_number, same_number}
use Rattle.object_sweep.proofs.Whole.{last_end, opened}

-- one more event
among_front : (done : List Event) (e x : Event) → IsEventAmong x done → IsEventAmong x (done ++ e ∷ [])
among_front done e x h = (h.0, get_front done (e ∷ []) h.0 x h.1)

among_last : (done : List Event) (e : Event) → IsEventAmong e (done ++ e ∷ [])
among_last done e = (length done, get_last done e)

among_cases : (done : List Event) (e x : Event) → IsEventAmong x (done ++ e ∷ []) → IsEventAmong x done ⊎ (e ≡ x)
among_cases done e x h = by_place (get_push done e h.0 x h.1)
  where
    by_place : (slice_get done h.0 ≡ Some x) ⊎ ((h.0 ≡ length done) × (e ≡ x)) → IsEventAmong x done ⊎ (e ≡ x)
    by_place (inl f) = inl (h.0, f)
    by_place (inr f) = inr f.1

-- a front of a list
pub taken : {X : Type 0} (xs : List X) (i j : ℕ) (x : X) → slice_get (take i xs) j ≡ Some x → (j < i) × (slice_get xs j ≡ Some x)
taken [] zero j x e = cc
taken [] (suc i) j x e = cc
taken (y ∷ xs) zero j x e = cc
taken (y ∷ xs) (suc i) zero x e = (omega arith, e)
taken (y ∷ xs) (suc i) (suc j) x e = let t = taken xs i j x e in (omega (arith, t.0), t.1)

takes : {X : Type 0} (xs : List X) (i j : ℕ) (x : X) → j < i → slice_get xs j ≡ Some x → slice_get (take i xs) j ≡ Some x
takes [] i j x l e = cc
takes (y ∷ xs) zero j x l e = absurd (omega arith)
takes (y ∷ xs) (suc i) zero x l e = e
takes (y ∷ xs) (suc i) (suc j) x l e = takes xs i j x (omega arith) e

take_one : {X : Type 0} (xs : List X) (i : ℕ) (x : X) → slice_get xs i ≡ Some x → take (suc i) xs ≡ take i xs ++ x ∷ []
take_one [] i x e = cc
take_one (y ∷ xs) zero x e = let s : y ≡ x = cc in ap (λ z. z ∷ []) s
take_one (y ∷ xs) (suc i) x e = ap (λ zs. y ∷ zs) (take_one xs i x e)

take_next : {X : Type 0} (xs : List X) (i : ℕ) (x : X) → slice_get xs i ≡ Some x → take (i + 1) xs ≡ take i xs ++ x ∷ []
take_next xs i x e = ap (λ n. take n xs) (add-one i) ∙ take_one xs i x e

take_whole : {X : Type 0} (xs : List X) → take (length xs) xs ≡ xs
take_whole [] = refl
take_whole (x ∷ xs) = ap (λ zs. x ∷ zs) (take_whole xs)

-- all but one
without_itself : (places : List ℕ) (p : ℕ) → is_in p (without p places) ≡ false
without_itself [] p = refl
without_itself (x ∷ xs) p = by_test (nat_eq x p) refl (without_itself xs p)
  where
    by_test : (b : Bool) → nat_eq x p ≡ b → is_in p (without p xs) ≡ false → is_in p (without p (x ∷ xs)) ≡ false
    by_test true e more = ap (λ b. is_in p (cond (not b) (x ∷ without p xs) (without p xs))) e ∙ more
    by_test false e more =
        ap (λ b. is_in p (cond (not b) (x ∷ without p xs) (without p xs))) e ∙ (ap (λ b. b || is_in p (without p xs)) e ∙ more)

in_without : (places : List ℕ) (p q : ℕ) → is_in q (without p places) ≡ true → (p ≢ q) × (is_in q places ≡ true)
in_without places p q h = elim (cases_eq p q) [
  | inl e ↦
      let P : ℕ → Type 0 = λ z. is_in z (without p places) ≡ true in
      let t : is_in p (without p places) ≡ true = subst P (sym e) h in let f = without_itself places p in cc
  | inr ne ↦ (ne, sym (without_other places p q ne) ∙ h)
]

-- a beginning is no end
event_of : (e : Event) (b : Bool) → e.ends ≡ b → record { at = e.at; ends = b; place = e.place } ≡ e
event_of e b h = let P : Bool → Event = λ z. record { at = e.at; ends = z; place = e.place } in ap P (sym h)

module _ {S W : Type 0} (after : S → W → Option S) (opening : S) (log : List (Operation W)) (forwards : RunForwards log)
    (events : List Event) (are : AreEvents log events) (i : ℕ) (e : Event) (here : slice_get events i ≡ Some e) where
  among_all : (x : Event) → IsEventAmong x (take i events) → IsEventAmong x events
  among_all x h = (h.0, (taken events i h.0 x h.1).1)

  before : (x : Event) → IsEventAmong x (take i events) → ComesNoLater x e
  before x h = let t = taken events i h.0 x h.1 in are.in_order h.0 i x e t.1 here t.0

  behind : (x : Event) → IsEventAmong x events → IsEventAmong x (take i events) ⊎ ComesNoLater e x
  behind x h = elim (cases_lt h.0 i) [
    | inl l ↦ inl (h.0, takes events i h.0 x l h.1)
    | inr le ↦ elim (cases_lt i h.0) [
      | inl l ↦ inr (are.in_order i h.0 e x here h.1 l)
      | inr ge ↦
          let same : h.0 ≡ i = omega arith in
          let one : e ≡ x = same_Some e x (sym here ∙ (ap (slice_get events) (sym same) ∙ h.1)) in
          let P : Event → Type 0 = λ z. ComesNoLater e z in
          inr (subst P one (record { at = omega arith; ends = λ f g. g; place = λ f g. omega arith }))
    ]
  ]

  is_event : IsEvent log e
  is_event = are.all.each e (i, here)

  front_as : (whole' : Bool) (under_way' : List ℕ) (held' : List (Configuration S)) {w : Bool} {under_way : List ℕ}
      {held : List (Configuration S)} → whole' ≡ w → under_way' ≡ under_way → held' ≡ held →
      IsFrontBehind w after opening log (take (i + 1) events) under_way held →
      IsFrontBehind whole' after opening log (take (i + 1) events) under_way' held'
  front_as whole' under_way' held' {w} {under_way} {held} e f k front =
      let P : Bool → Type 0 = λ z. IsFrontBehind z after opening log (take (i + 1) events) under_way' held' in
      let Q : List ℕ → Type 0 = λ z. IsFrontBehind w after opening log (take (i + 1) events) z held' in
      let R : List (Configuration S) → Type 0 = λ z. IsFrontBehind w after opening log (take (i + 1) events) under_way z in
      subst P (sym e) (subst Q (sym f) (subst R (sym k) front))

  module _ (is_whole : Bool) (under_way : List ℕ) (held : List (Configuration S))
      (front : IsFrontBehind is_whole after opening log (take i events) under_way held) where
    -- an operation begins
    begins_open : e.ends ≡ false → is_in e.place front.ended ≡ false
    begins_open begins_it = elim (cases_Bool (is_in e.place front.ended)) [
      | inr f ↦ f
      | inl t ↦
          let a = front.have_ended e.place t in
          let x : Event = ends a.0 e.place in
          let late = before x a.1 in
          let of = are.all.each x (among_all x a.1) in
          let ended : of.0.ends ≡ Some a.0 = of.3 refl in
          let starts : of.0.starts ≤ a.0 = forwards e.place a.0 of.0 of.1 ended in
          let same : of.0 ≡ is_event.0 = same_Some of.0 is_event.0 (sym of.1 ∙ is_event.1) in
          let began : is_event.0.starts ≡ e.at = is_event.2 begins_it in
          let first : of.0.starts ≡ is_event.0.starts = ap (λ (z : Operation W). z.starts) same in
          let le : a.0 ≤ e.at = late.at in
          let moment : a.0 ≡ e.at = omega arith in
          let ended_it : e.ends ≡ true = late.ends moment refl in cc
    ]

    pub front_begins : e.ends ≡ false → IsFrontBehind is_whole after opening log (take (i + 1) events) (under_way ++ e.place ∷ []) held
    front_begins begins_it =
        let P : List Event → Type 0 = λ z. IsFrontBehind is_whole after opening log z (under_way ++ e.place ∷ []) held in
        subst P (sym (take_next events i e here)) (record {
          ended = front.ended;
          have_ended = λ q t. let a = front.have_ended q t in (a.0, among_front (take i events) e (ends a.0 q) a.1);
          all_ended = all_ended;
          have_begun = have_begun;
          all_begun = all_begun;
          reached = front.reached;
          complete = front.complete;
          some = front.some;
        })
      where
        all_ended : (q at : ℕ) → IsEventAmong (ends at q) (take i events ++ e ∷ []) → is_in q front.ended ≡ true
        all_ended q at h = elim (among_cases (take i events) e (ends at q) h) [
          | inl d ↦ front.all_ended q at d
          | inr s ↦ let ended_it : e.ends ≡ true = ap (λ (z : Event). z.ends) s in cc
        ]

        have_begun : (q : ℕ) → is_in q (under_way ++ e.place ∷ []) ≡ true →
            ((at : ℕ) × IsEventAmong (begins at q) (take i events ++ e ∷ [])) × (is_in q front.ended ≡ false)
        have_begun q h = elim (or_cases (is_in q under_way) (nat_eq e.place q) (sym (is_in_push under_way e.place q) ∙ h)) [
          | inl d ↦
              let b = front.have_begun q d in ((b.0.0, among_front (take i events) e (begins b.0.0 q) b.0.1), b.1)
          | inr s ↦
              let same : e.place ≡ q = same_if e.place q s in
              let P : ℕ → Type 0 = λ z. ((at : ℕ) × IsEventAmong (begins at z) (take i events ++ e ∷ [])) × (is_in z front.ended ≡ false) in
              let Q : Event → Type 0 = λ z. IsEventAmong z (take i events ++ e ∷ []) in
              subst P same ((e.at, subst Q (sym (event_of e false begins_it)) (among_last (take i events) e)), begins_open begins_it)
        ]

        all_begun : (q at : ℕ) → IsEventAmong (begins at q) (take i events ++ e ∷ []) → is_in q front.ended ≡ false →
            is_in q (under_way ++ e.place ∷ []) ≡ true
        all_begun q at h open_yet = elim (among_cases (take i events) e (begins at q) h) [
          | inl d ↦ is_in_push under_way e.place q ∙ ap (λ b. b || nat_eq e.place q) (front.all_begun q at d open_yet)
          | inr s ↦
              let same : e.place ≡ q = ap (λ (z : Event). z.place) s in
              let t : nat_eq e.place q ≡ true = ap (λ z. nat_eq z q) same ∙ same_number q in
              is_in_push under_way e.place q ∙ (ap (λ b. is_in q under_way || b) t ∙ or_true (is_in q under_way))
        ]
          where
            or_true : (b : Bool) → (b || true) ≡ true
            or_true true = refl
            or_true false = refl

    -- an operation ends
    it_ended : (ended : List ℕ) → is_in e.place (e.place ∷ ended) ≡ true
    it_ended ended = ap (λ b. b || is_in e.place ended) (same_number e.place)

    had_ended : (ended : List ℕ) (q : ℕ) → is_in q ended ≡ true → is_in q (e.place ∷ ended) ≡ true
    had_ended ended q t = or_right (nat_eq e.place q) (is_in q ended) t

    pub way_at : e.ends ≡ true → AreUnderWay log under_way front.ended e.at
    way_at ends_it = record { begun = begun; all = all }
      where
        begun : (q : ℕ) → is_in q under_way ≡ true →
            (o : Operation W) × (slice_get log q ≡ Some o) × (o.starts ≤ e.at) × (is_in q front.ended ≡ false)
        begun q h =
            let b = front.have_begun q h in
            let x : Event = begins b.0.0 q in
            let of = are.all.each x (among_all x b.0.1) in
            let late : b.0.0 ≤ e.at = (before x b.0.1).at in
            let starts : of.0.starts ≡ b.0.0 = of.2 refl in
            let le : of.0.starts ≤ e.at = omega arith in (of.0, of.1, le, b.1)

        all : (q : ℕ) (o : Operation W) → slice_get log q ≡ Some o → o.starts ≤ e.at → is_in q front.ended ≡ false →
            is_in q under_way ≡ true
        all q o at le open_yet = elim (behind (begins o.starts q) (are.all.begun q o (slice_get_within log q o at) at)) [
          | inl d ↦ front.all_begun q o.starts d open_yet
          | inr late ↦
              let ge : e.at ≤ o.starts = late.at in
              let moment : e.at ≡ o.starts = omega arith in
              let never : false ≡ true = late.ends moment ends_it in cc
        ]

    pub next_at : e.ends ≡ true → is_in e.place under_way ≡ true → IsNextEnd log front.ended e.place e.at
    next_at ends_it h = (is_event.0, is_event.1, is_event.3 ends_it, (front.have_begun e.place h).1, last)
      where
        last : NoOpenEndBefore log (λ q. is_in q front.ended) e.at
        last r at a free ra ended = elim (behind (ends at r) (are.all.ended r at a (slice_get_within log r a ra) ra ended)) [
          | inl d ↦ let t = front.all_ended r at d in cc
          | inr late ↦ late.at
        ]

    among_end : e.ends ≡ true → (q at : ℕ) → IsEventAmong (ends at q) (take i events ++ e ∷ []) →
        IsEventAmong (ends at q) (take i events) ⊎ (e.place ≡ q)
    among_end ends_it q at h = elim (among_cases (take i events) e (ends at q) h) [
      | inl d ↦ inl d
      | inr s ↦ inr (ap (λ (z : Event). z.place) s)
    ]

    among_begin : e.ends ≡ true → (q at : ℕ) → IsEventAmong (begins at q) (take i events ++ e ∷ []) →
        IsEventAmong (begins at q) (take i events)
    among_begin ends_it q at h = elim (among_cases (take i events) e (begins at q) h) [
      | inl d ↦ d
      | inr s ↦ let began_it : e.ends ≡ false = ap (λ (z : Event). z.ends) s in cc
    ]

    -- which had ended
    pub front_again : e.ends ≡ true → is_in e.place under_way ≡ false →
        IsFrontBehind is_whole after opening log (take (i + 1) events) under_way held
    front_again ends_it h =
        let P : List Event → Type 0 = λ z. IsFrontBehind is_whole after opening log z under_way held in
        subst P (sym (take_next events i e here)) (record {
          ended = front.ended;
          have_ended = λ q t. let a = front.have_ended q t in (a.0, among_front (take i events) e (ends a.0 q) a.1);
          all_ended = all_ended;
          have_begun = λ q t.
              let b = front.have_begun q t in ((b.0.0, among_front (take i events) e (begins b.0.0 q) b.0.1), b.1);
          all_begun = λ q at d. front.all_begun q at (among_begin ends_it q at d);
          reached = front.reached;
          complete = front.complete;
          some = front.some;
        })
      where
        has_ended : is_in e.place front.ended ≡ true
        has_ended = elim (cases_Bool (is_in e.place front.ended)) [
          | inl t ↦ t
          | inr f ↦
              let starts : is_event.0.starts ≤ e.at = forwards e.place e.at is_event.0 is_event.1 (is_event.3 ends_it) in
              let t : is_in e.place under_way ≡ true = (way_at ends_it).all e.place is_event.0 is_event.1 starts f in cc
        ]

        all_ended : (q at : ℕ) → IsEventAmong (ends at q) (take i events ++ e ∷ []) → is_in q front.ended ≡ true
        all_ended q at a = elim (among_end ends_it q at a) [
          | inl d ↦ front.all_ended q at d
          | inr s ↦ let P : ℕ → Type 0 = λ z. is_in z front.ended ≡ true in subst P s has_ended
        ]

    -- and which was under way
    pub front_ends : e.ends ≡ true → is_in e.place under_way ≡ true → (w : Bool) (kept : List (Configuration S)) →
        IsPassed w after log under_way e.place held kept → 0 < length kept →
        IsFrontBehind (is_whole && w) after opening log (take (i + 1) events) (without e.place under_way) kept
    front_ends ends_it h w kept passed some =
        let P : List Event → Type 0 = λ z. IsFrontBehind (is_whole && w) after opening log z (without e.place under_way) kept in
        subst P (sym (take_next events i e here)) (record {
          ended = e.place ∷ front.ended;
          have_ended = have_ended;
          all_ended = all_ended;
          have_begun = have_begun;
          all_begun = all_begun;
          reached = passed.reached opening front.ended e.at (next_at ends_it h) (way_at ends_it) front.reached;
          complete = λ all cut is keeps l. passed.complete (and_parts is_whole w all).1 opening front.ended e.at forwards
              (next_at ends_it h) (way_at ends_it) front.reached
              cut is (keeps e.place e.at (it_ended front.ended) ends_then) (front.complete (and_parts is_whole w all).0 cut is
              (λ q at t. keeps q at (had_ended front.ended q t)) l);
          some = some;
        })
      where
        ends_then : EndsAt log e.place e.at
        ends_then = let n = next_at ends_it h in (n.0, n.1, n.2)

        have_ended : (q : ℕ) → is_in q (e.place ∷ front.ended) ≡ true → (at : ℕ) × IsEventAmong (ends at q) (take i events ++ e ∷ [])
        have_ended q t = elim (or_cases (nat_eq e.place q) (is_in q front.ended) t) [
          | inr d ↦ let a = front.have_ended q d in (a.0, among_front (take i events) e (ends a.0 q) a.1)
          | inl s ↦
              let P : ℕ → Type 0 = λ z. (at : ℕ) × IsEventAmong (ends at z) (take i events ++ e ∷ []) in
              let Q : Event → Type 0 = λ z. IsEventAmong z (take i events ++ e ∷ []) in
              subst P (same_if e.place q s) (e.at, subst Q (sym (event_of e true ends_it)) (among_last (take i events) e))
        ]

        all_ended : (q at : ℕ) → IsEventAmong (ends at q) (take i events ++ e ∷ []) → is_in q (e.place ∷ front.ended) ≡ true
        all_ended q at a = elim (among_end ends_it q at a) [
          | inl d ↦ or_true (nat_eq e.place q) (is_in q front.ended) (front.all_ended q at d)
          | inr s ↦
              let t : nat_eq e.place q ≡ true = ap (λ z. nat_eq z q) s ∙ same_number q in
              ap (λ b. b || is_in q front.ended) t
        ]
          where
            or_true : (a b : Bool) → b ≡ true → (a || b) ≡ true
            or_true true b f = refl
            or_true false b f = f

        have_begun : (q : ℕ) → is_in q (without e.place under_way) ≡ true →
            ((at : ℕ) × IsEventAmong (begins at q) (take i events ++ e ∷ [])) × (is_in q (e.place ∷ front.ended) ≡ false)
        have_begun q t =
            let w = in_without under_way e.place q t in
            let b = front.have_begun q w.1 in (
              (b.0.0, among_front (take i events) e (begins b.0.0 q) b.0.1),
              ap (λ z. z || is_in q front.ended) (other_number e.place q w.0) ∙ b.1,
            )

        all_begun : (q at : ℕ) → IsEventAmong (begins at q) (take i events ++ e ∷ []) → is_in q (e.place ∷ front.ended) ≡ false →
            is_in q (without e.place under_way) ≡ true
        all_begun q at a f =
            let p = or_parts (nat_eq e.place q) (is_in q front.ended) f in
            let ne : e.place ≢ q = λ s. apart (ap (λ z. nat_eq z q) s ∙ same_number q) p.0 in
            without_other under_way e.place q ne ∙ front.all_begun q at (among_begin ends_it q at a) p.1
          where
            apart : nat_eq e.place q ≡ true → nat_eq e.place q ≡ false → ⊥
            apart t u = cc

    -- nothing is kept
    none_of : e.ends ≡ true → is_in e.place under_way ≡ true → is_whole ≡ true → IsPassed true after log under_way e.place held [] →
        (cut : List (Operation W)) → IsLogCut log cut → KeepsEnds log cut (e.place ∷ front.ended) → ¬ IsLinearizable after opening cut
    none_of ends_it h all passed cut is keeps l =
        let ends_then : EndsAt log e.place e.at = let n = next_at ends_it h in (n.0, n.1, n.2) in
        let a = passed.complete refl opening front.ended e.at forwards (next_at ends_it h) (way_at ends_it) front.reached cut is
        (keeps e.place e.at (it_ended front.ended) ends_then)
        (front.complete all cut is (λ q at t. keeps q at (had_ended front.ended q t)) l) in
        let at : None ≡ Some a.1 = a.2 in cc

    pub none_kept : e.ends ≡ true → is_in e.place under_way ≡ true → is_whole ≡ true → IsPassed true after log under_way e.place held [] →
        ¬ IsLinearizable after opening log
    none_kept ends_it h all passed l = none_of ends_it h all passed log (whole log) (λ q at t ends. ends) l

    -- what ended comes before what ends later
    first_ended : e.ends ≡ true → AreFirst log (e.place ∷ front.ended)
    first_ended ends_it p q at end pa qb there le lower =
        elim (behind (ends at p) (are.all.ended p at pa.0 (slice_get_within log p pa.0 pa.1) pa.1 pa.2)) [
          | inl d ↦ had_ended front.ended p (front.all_ended p at d)
          | inr late ↦ elim (or_cases (nat_eq e.place q) (is_in q front.ended) there) [
            | inl s ↦
                let same : e.place ≡ q = same_if e.place q s in
                let his : slice_get log q ≡ Some is_event.0 = ap (slice_get log) (sym same) ∙ is_event.1 in
                let one : is_event.0 ≡ qb.0 = same_Some is_event.0 qb.0 (sym his ∙ qb.1) in
                let at_once : Some e.at ≡ Some end =
                sym (is_event.3 ends_it) ∙ (ap (λ (z : Operation W). z.ends) one ∙ qb.2) in
                let moment : e.at ≡ end = same_Some e.at end at_once in
                let after_it : e.at ≤ at = late.at in
                let no_lower : e.place ≤ p = late.place (omega (arith, moment, after_it, le)) ends_it in
                let no_higher : p ≤ q = lower (omega (arith, moment, after_it, le)) in
                let P : ℕ → Type 0 = λ z. is_in z (e.place ∷ front.ended) ≡ true in
                subst P (omega (arith, no_lower, no_higher, same)) (it_ended front.ended)
            | inr r ↦
                let a = front.have_ended q r in
                let of = are.all.each (ends a.0 q) (among_all (ends a.0 q) a.1) in
                let one : of.0 ≡ qb.0 = same_Some of.0 qb.0 (sym of.1 ∙ qb.1) in
                let at_once : Some a.0 ≡ Some end = sym (of.3 refl) ∙ (ap (λ (z : Operation W). z.ends) one ∙ qb.2) in
                let moment : a.0 ≡ end = same_Some a.0 end at_once in
                let early = before (ends a.0 q) a.1 in
                let before_it : a.0 ≤ e.at = early.at in
                let after_it : e.at ≤ at = late.at in
                let no_lower : e.place ≤ p = late.place (omega (arith, moment, before_it, after_it, le)) ends_it in
                let low : q ≤ e.place = early.place (omega (arith, moment, before_it, after_it, le)) (sym ends_it) in
                let no_higher : p ≤ q = lower (omega (arith, moment, before_it, after_it, le)) in
                let P : ℕ → Type 0 = λ z. is_in z (e.place ∷ front.ended) ≡ true in
                subst P (omega (arith, no_lower, no_higher, low)) (it_ended front.ended)
          ]
        ]

    -- so nothing is reached behind the end
    none_reached : e.ends ≡ true → is_in e.place under_way ≡ true → is_whole ≡ true → IsPassed true after log under_way e.place held [] →
        (s : S) (placed : List ℕ) → ¬ IsReachable after opening log (e.place ∷ front.ended) s placed
    none_reached ends_it h all passed s placed r =
        none_of ends_it h all passed cut is (keeps_ends log (e.place ∷ front.ended)) lawful
      where
        cut : List (Operation W)
        cut = so_far log (e.place ∷ front.ended)

        is : IsLogCut log cut
        is = so_far_is_cut log (e.place ∷ front.ended) (first_ended ends_it)

        b : IsBeforeEnd after opening log front.ended e.place
        b = before_end after opening log r e.place front.ended refl

        next : IsNextEnd log front.ended e.place e.at
        next = next_at ends_it h

        ends_then : EndsAt cut e.place e.at
        ends_then = keeps_ends log (e.place ∷ front.ended) e.place e.at (it_ended front.ended) (next.0, next.1, next.2)

        there : IsReachable after opening cut (e.place ∷ front.ended) b.0 (without e.place b.1)
        there = Ends front.ended b.1 b.0 (cut_reached log cut is after opening b.2 e.place e.at next ends_then
            (λ q at t. keeps_ends log (e.place ∷ front.ended) q at (had_ended front.ended q t))) e.place e.at
            (cut_next log cut is front.ended e.place e.at next ends_then) (by_out b.3)
          where
            by_out : (is_in e.place b.1 ≡ true) ⊎ MayBeLeftOut log e.place → (is_in e.place b.1 ≡ true) ⊎ MayBeLeftOut cut e.place
            by_out (inl i) = inl i
            by_out (inr m) = let c = is.each e.place m.0 m.1 in inr (c.0, c.1, c.2.maybe ∙ m.2)

        all_over : (p : ℕ) (o : Operation W) → slice_get cut p ≡ Some o →
            is_closed (e.place ∷ front.ended) (without e.place b.1) p ≡ false → o.ends ≡ None
        all_over p o at free =
            no_other_end log (e.place ∷ front.ended) p o at
            (or_parts (is_in p (e.place ∷ front.ended)) (is_in p (without e.place b.1)) free).0

        lawful : IsLinearizable after opening cut
        lawful = (opened after opening cut).0 (back after cut opening there (last_end after cut
            (is_closed (e.place ∷ front.ended) (without e.place b.1)) b.0 all_over))

    pub lost_there : e.ends ≡ true → is_in e.place under_way ≡ true → is_whole ≡ true → IsPassed true after log under_way e.place held [] →
        IsLostAt after opening log e.place
    lost_there ends_it h all passed = record {
      ended = front.ended;
      end = e.at;
      next = next_at ends_it h;
      before = by_held held refl;
      behind = none_reached ends_it h all passed;
    }
      where
        by_held : (list : List (Configuration S)) → held ≡ list →
            (s : S) × (placed : List ℕ) × IsReachable after opening log front.ended s placed
        by_held [] same =
            let l : 0 < length held = front.some in
            let n : length held ≡ 0 = ap (λ (z : List (Configuration S)). length z) same in absurd (omega arith)
        by_held (one ∷ rest) same =
            let at : slice_get held 0 ≡ Some one = ap (λ z. slice_get z 0) same in
            (one.state, one.placed.items, front.reached 0 one at)

    pub many_kept : e.ends ≡ true → is_in e.place under_way ≡ true → (budget : ℕ) →
        AreAlwaysTooMany after log under_way e.place held budget → AreTooMany after opening log budget e.place
    many_kept ends_it h budget many = many opening front.ended e.at (next_at ends_it h) (way_at ends_it) front.reached

    -- one more event, whichever it is
    pub front_on : (b : Bool) → e.ends ≡ b → (whole' : Bool) (under_way' : List ℕ) (held' : List (Configuration S)) →
        IsOn b after log e.place is_whole under_way held whole' under_way' held' →
        IsFrontBehind whole' after opening log (take (i + 1) events) under_way' held'
    front_on false is whole' under_way' held' h = front_as whole' under_way' held' h.0 h.1 h.2 (front_begins is)
    front_on true is whole' under_way' held' (inl h) = front_as whole' under_way' held' h.1 h.2 h.3 (front_again is h.0)
    front_on true is whole' under_way' held' (inr h) = front_as whole' under_way' held' h.2 h.3 refl (front_ends is h.1 h.0 held' h.4 h.5)

    pub front_more : (budget : ℕ) (under_way' : List ℕ) (held' : List (Configuration S)) (b : Bool) → e.ends ≡ b →
        IsEventPassed b after log budget e.place under_way held under_way' held' None →
        IsFrontBehind is_whole after opening log (take (i + 1) events) under_way' held'
    front_more budget under_way' held' false is h = front_on false is is_whole under_way' held' (refl, h.0, h.1)
    front_more budget under_way' held' true is (inl h) = front_on true is is_whole under_way' held' (inl (h.0, refl, h.1, h.2))
    front_more budget under_way' held' true is (inr h) =
        front_on true is is_whole under_way' held' (inr (true, h.0, sym (and_true is_whole), h.1, h.2, h.3))
      where
        and_true : (w : Bool) → (w && true) ≡ w
        and_true true = refl
        and_true false = refl

    -- or it is lost there
    pub lost_verdict : e.ends ≡ true → is_whole ≡ true → is_in e.place under_way ≡ true →
        IsPassed true after log under_way e.place held [] → (budget : ℕ) → IsSweepVerdict after opening log budget (Unlawful e.place)
    lost_verdict is all h passed budget = (none_kept is h all passed, lost_there is h all passed)

    pub front_verdict : is_whole ≡ true → (budget : ℕ) (under_way' : List ℕ) (held' : List (Configuration S)) (verdict : Verdict)
        (b : Bool) → e.ends ≡ b → IsEventPassed b after log budget e.place under_way held under_way' held' (Some verdict) →
        IsSweepVerdict after opening log budget verdict
    front_verdict all budget under_way' held' verdict false is h = absurd h
    front_verdict all budget under_way' held' Lawful true is h = absurd h
    front_verdict all budget under_way' held' (Unlawful p) true is h =
        let P : ℕ → Type 0 = λ z. IsSweepVerdict after opening log budget (Unlawful z) in
        subst P (sym h.1) (lost_verdict is all h.0 h.2 budget)
    front_verdict all budget under_way' held' (TooMany p) true is h =
        let P : ℕ → Type 0 = λ z. AreTooMany after opening log budget z in subst P (sym h.1) (many_kept is h.0 budget h.2)

module _ {S W : Type 0} (after : S → W → Option S) (opening : S) (log : List (Operation W)) (events : List Event) where
  -- before all events
  pub front_first : (under_way : List ℕ) (held : List (Configuration S)) → IsOpened opening under_way held →
      IsFrontBehind true after opening log (take 0 events) under_way held
  front_first under_way held first =
      let P : List ℕ → Type 0 = λ z. IsFrontBehind true after opening log [] z held in
      let Q : List (Configuration S) → Type 0 = λ z. IsFrontBehind true after opening log [] [] z in
      subst P (sym first.0) (subst Q (sym first.1.1) (record {
        ended = [];
        have_ended = λ q t. cc;
        all_ended = λ q at h. let none : None ≡ Some (ends at q) = h.1 in cc;
        have_begun = λ q t. cc;
        all_begun = λ q at h. let none : None ≡ Some (begins at q) = h.1 in cc;
        reached = reached;
        complete = λ all. complete;
        some = omega arith;
      }))
    where
      one : Configuration S
      one = first.1.0

      reached : AreReachable after opening log [] (one ∷ [])
      reached zero other at =
          let P : Configuration S → Type 0 = λ z. IsReachable after opening log [] z.state z.placed.items in
          let Q : S → Type 0 = λ z. IsReachable after opening log [] z one.placed.items in
          let R : List ℕ → Type 0 = λ z. IsReachable after opening log [] opening z in
          subst P (same_Some one other at) (subst Q (sym first.1.2) (subst R (sym first.1.3) Opens))
      reached (suc i) other at = cc

      complete : (cut : List (Operation W)) → IsLogCut log cut → KeepsEnds log cut [] → IsLinearizable after opening cut →
          AnyCanFinish after cut [] (one ∷ [])
      complete cut is keeps l =
          let Q : S → Type 0 = λ z. CanFinish after cut (is_closed [] one.placed.items) z in
          let R : List ℕ → Type 0 = λ z. CanFinish after cut (is_closed [] z) opening in
          (0, one, refl, subst Q (sym first.1.2) (subst R (sym first.1.3) ((opened after opening cut).1 l)))

  -- behind all events
  pub front_last : AreEvents log events → (is_whole : Bool) (under_way : List ℕ) (held : List (Configuration S)) →
      IsFrontBehind is_whole after opening log (take (length events) events) under_way held → IsLinearizable after opening log
  front_last are is_whole under_way held before = by_held held refl
    where
      front : IsFrontBehind is_whole after opening log events under_way held
      front =
          let P : List Event → Type 0 = λ z. IsFrontBehind is_whole after opening log z under_way held in subst P (take_whole events) before

      all_over : (one : Configuration S) (p : ℕ) (o : Operation W) → slice_get log p ≡ Some o →
          is_closed front.ended one.placed.items p ≡ false → o.ends ≡ None
      all_over one p o at free = by_end o.ends refl
        where
          by_end : (m : Option ℕ) → o.ends ≡ m → m ≡ None
          by_end None h = refl
          by_end (Some end) h =
              let t = front.all_ended p end (are.all.ended p end o (slice_get_within log p o at) at h) in
              let f = (or_parts (is_in p front.ended) (is_in p one.placed.items) free).0 in cc

      by_held : (list : List (Configuration S)) → held ≡ list → IsLinearizable after opening log
      by_held [] h = let l : 0 < length held = front.some in
          let n : length held ≡ 0 = ap (λ (z : List (Configuration S)). length z) h in absurd (omega arith)
      by_held (one ∷ rest) h =
          let at : slice_get held 0 ≡ Some one = ap (λ z. slice_get z 0) h in
          let end = last_end after log (is_closed front.ended one.placed.items) one.state (all_over one) in
          (opened after opening log).0 (back after log opening (front.reached 0 one at) end)
