-- The events of a log, and their order.
use Rattle.std.proofs.Common.{◌≡◌, ℕ, ◌+◌, ◌<◌, ◌≤◌, Bool, true, false, List, [], ◌∷◌, ◌++◌, length, get_or, slice_get}
use Rattle.std.proofs.Common.{Option, None, Some, zero, suc, refl, sym, ◌∙◌, ap, subst, arith, ◌⊎◌, inl, inr}
use Rattle.std.specs.Prelude.{map, nat_eq, nat_lt, option_map}
use Rattle.std.proofs.lemmas.List.{map-append}
use Rattle.std.specs.List.{Contains}
use Rattle.std.specs.List.Sorted.{IsPermutation, IsSortedByKey}
use Rattle.std.specs.declared.cmp.Ordering.{Ordering}
use Rattle.std.specs.declared.cmp.Ordering.TheVariants.{Less, Equal}
use Rattle.std.specs.Ordering.{is_lt, nat_cmp, bool_cmp, ordering_then}
use Rattle.std.proofs.lemmas.Bool.{cases_lt}
use Rattle.std.proofs.lemmas.Bool.Decides.{nat_tests}
use Rattle.std.proofs.lemmas.List.Sorted.{Contains-permutation, IsPermutation-map, IsPermutation-sym, ranks_by, sorted_far}
use Rattle.std.proofs.lemmas.Option.{get_or_from_slice_get, same_Some, slice_get-get_or, slice_get-map, slice_get_within}
use Rattle.object_core.specs.declared.operation.Operation.{Operation}
use Rattle.object_sweep.specs.contracts.event.EventOrd.TheImpl.Laws.{total-law as EventTotal}
use Rattle.object_sweep.specs.declared.event.Event.{Event}
use Rattle.object_sweep.specs.declared.event.Turn.{Turn}
use Rattle.object_sweep.specs.inner.Events.{end_turn, event_of, events_at, moment, moment_in, turns_of}
use Rattle.object_sweep.specs.inner.Events.{HaveEvents, AreEvents, begins, end_of, ends, events_of, IsEventAmong, IsEvent, ComesNoLater}
use Rattle.object_sweep.proofs.Lists.{get_front}

-- how events compare
abbrev pub event_cmp : Event → Event → Ordering
event_cmp a b = ordering_then (nat_cmp a.at b.at) (ordering_then (bool_cmp a.ends b.ends) (nat_cmp a.place b.place))

cmp_less : (a b : ℕ) → a < b → nat_cmp a b ≡ Less
cmp_less a b l = let t : nat_lt a b ≡ true = grind (arith, nat_tests) in rw t refl

cmp_same : (a b : ℕ) → a ≡ b → nat_cmp a b ≡ Equal
cmp_same a b e =
    let t : nat_lt a b ≡ false = grind (arith, nat_tests) in
    let s : nat_eq a b ≡ true = grind (arith, nat_tests) in
    rw (t, s) refl

then_number : (x y : ℕ) (rest : Ordering) → is_lt (ordering_then (nat_cmp y x) rest) ≡ false → (x ≤ y) × (x ≡ y → is_lt rest ≡ false)
then_number x y rest h = (
  elim (cases_lt y x) [
    | inl l ↦
        let z : is_lt (ordering_then (nat_cmp y x) rest) ≡ true = ap (λ o. is_lt (ordering_then o rest)) (cmp_less y x l) in
        cc
    | inr le ↦ le
  ],
  λ e. sym (ap (λ o. is_lt (ordering_then o rest)) (cmp_same y x (sym e))) ∙ h,
)

last_number : (x y : ℕ) → is_lt (nat_cmp y x) ≡ false → x ≤ y
last_number x y h = elim (cases_lt y x) [
  | inl l ↦ let z : is_lt (nat_cmp y x) ≡ true = ap is_lt (cmp_less y x l) in cc
  | inr le ↦ le
]

then_test : (x y : Bool) (rest : Ordering) → is_lt (ordering_then (bool_cmp y x) rest) ≡ false → x ≡ true → y ≡ true
then_test false y rest h e = cc
then_test true false rest h e = cc
then_test true true rest h e = refl

then_same : (x y : Bool) (rest : Ordering) → is_lt (ordering_then (bool_cmp y x) rest) ≡ false → x ≡ y → is_lt rest ≡ false
then_same false false rest h e = h
then_same true true rest h e = h
then_same false true rest h e = cc
then_same true false rest h e = cc

no_later : (x y : Event) → is_lt (event_cmp y x) ≡ false → ComesNoLater x y
no_later x y h =
    let a = then_number x.at y.at _ h in record {
      at = a.0;
      ends = λ e. then_test x.ends y.ends _ (a.1 e);
      place = λ e f. last_number x.place y.place (then_same x.ends y.ends _ (a.1 e) f);
    }

-- one among the mapped ones was mapped
mapped : {T : Type 0} (key : T → Event) (m : Option T) (x : Event) → option_map key m ≡ Some x → (u : T) × (m ≡ Some u) × (key u ≡ x)
mapped key None x e = cc
mapped key (Some u) x e = (u, refl, same_Some (key u) x e)

sorted_in_order : {T : Type 0} (key : T → Event) (turns : List T) → IsSortedByKey key event_cmp turns → (i j : ℕ) (x y : Event) →
    slice_get (map key turns) i ≡ Some x → slice_get (map key turns) j ≡ Some y → i < j → ComesNoLater x y
sorted_in_order key turns up i j x y ei ej l =
    let u = mapped key (slice_get turns i) x (sym (slice_get-map key turns i) ∙ ei) in
    let v = mapped key (slice_get turns j) y (sym (slice_get-map key turns j) ∙ ej) in
    let far : is_lt (event_cmp (key (get_or turns j u.0)) (key (get_or turns i u.0))) ≡ false =
    sorted_far (λ a b. is_lt (event_cmp (key a) (key b))) (ranks_by EventTotal key) turns up i j u.0 (omega arith)
    (slice_get_within turns j v.0 v.1) in
    let gx : key (get_or turns i u.0) ≡ x = ap key (get_or_from_slice_get turns i u.0 u.0 u.1) ∙ u.2 in
    let gy : key (get_or turns j u.0) ≡ y = ap key (get_or_from_slice_get turns j v.0 u.0 v.1) ∙ v.2 in
    no_later x y (ap (λ z. is_lt (event_cmp z x)) (sym gy)
    ∙ (ap (λ z. is_lt (event_cmp (key (get_or turns j u.0)) z)) (sym gx) ∙ far))

-- what is among these is among the sorted ones
moved : (old new : List Event) → IsPermutation old new → (e : Event) → IsEventAmong e old → IsEventAmong e new
moved old new p e h =
    let at : Contains old e = (h.0, slice_get_within old h.0 e h.1, get_or_from_slice_get old h.0 e e h.1) in
    let c = Contains-permutation old new e p at in
    (c.0, slice_get-get_or new c.0 e c.1 ∙ ap Some c.2)

pub sorted_events : {W : Type 0} (log : List (Operation W)) (old new : List Turn) → HaveEvents log (length log) (events_at log old) →
    IsPermutation old new → IsSortedByKey (event_of log) event_cmp new → AreEvents log (events_at log new)
sorted_events log old new all p up = record {
  all = record {
    each = λ e h. all.each e
        (moved (events_at log new) (events_at log old) (IsPermutation-sym (events_at log old) (events_at log new) q) e h);
    begun = λ place o l at. moved (events_at log old) (events_at log new) q (begins o.starts place) (all.begun place o l at);
    ended = λ place m o l at e. moved (events_at log old) (events_at log new) q (ends m place) (all.ended place m o l at e);
  };
  in_order = sorted_in_order (event_of log) new up;
}
  where
    q : IsPermutation (events_at log old) (events_at log new)
    q = IsPermutation-map (event_of log) old new p

pub event_here : {W : Type 0} (log : List (Operation W)) (turns : List Turn) (i : ℕ) (turn : Turn) → slice_get turns i ≡ Some turn →
    slice_get (events_at log turns) i ≡ Some (event_of log turn)
event_here log turns i turn at = slice_get-map (event_of log) turns i ∙ ap (option_map (event_of log)) at

-- the turns of an operation stand for its events
end_stands : {W : Type 0} (log : List (Operation W)) (place : ℕ) (o : Operation W) → slice_get log place ≡ Some o → (m : Option ℕ) →
    o.ends ≡ m → events_at log (end_turn m place) ≡ end_of m place
end_stands log place o at None e = refl
end_stands log place o at (Some end) e = ap (λ z. ends z place ∷ []) (ap (λ z. moment_in z true) at ∙ ap moment e)

turns_stand : {W : Type 0} (log : List (Operation W)) (place : ℕ) (o : Operation W) → slice_get log place ≡ Some o →
    events_at log (turns_of o place) ≡ events_of o place
turns_stand log place o at =
    ap (λ z. begins z place ∷ events_at log (end_turn o.ends place)) (ap (λ z. moment_in z false) at)
    ∙ ap (λ z. begins o.starts place ∷ z) (end_stands log place o at o.ends refl)

-- the events of one more operation
among_front : (old more : List Event) (x : Event) → IsEventAmong x old → IsEventAmong x (old ++ more)
among_front old more x h = (h.0, get_front old more h.0 x h.1)

among_more : (old more : List Event) (x : Event) → IsEventAmong x more → IsEventAmong x (old ++ more)
among_more [] more x h = h
among_more (y ∷ old) more x h = let a = among_more old more x h in (suc a.0, a.1)

among_either : (old more : List Event) (x : Event) → IsEventAmong x (old ++ more) → IsEventAmong x old ⊎ IsEventAmong x more
among_either [] more x h = inr h
among_either (y ∷ old) more x (zero, e) = inl (0, e)
among_either (y ∷ old) more x (suc i, e) = step (among_either old more x (i, e))
  where
    step : IsEventAmong x old ⊎ IsEventAmong x more → IsEventAmong x (y ∷ old) ⊎ IsEventAmong x more
    step (inl h) = inl (suc h.0, h.1)
    step (inr h) = inr h

module _ {W : Type 0} (log : List (Operation W)) where
  of_end : (o : Operation W) (place : ℕ) → slice_get log place ≡ Some o → (m : Option ℕ) → o.ends ≡ m → (i : ℕ) (e : Event) →
      slice_get (end_of m place) i ≡ Some e → IsEvent log e
  of_end o place at None h i e f = cc
  of_end o place at (Some end) h zero e f =
      let P : Event → Type 0 = λ z. IsEvent log z in
      subst P (same_Some (ends end place) e f) (o, at, λ t. cc, λ t. h)
  of_end o place at (Some end) h (suc i) e f = cc

  of_op : (o : Operation W) (place : ℕ) → slice_get log place ≡ Some o → (e : Event) → IsEventAmong e (events_of o place) → IsEvent log e
  of_op o place at e (zero, f) =
      let P : Event → Type 0 = λ z. IsEvent log z in
      subst P (same_Some (begins o.starts place) e f) (o, at, λ t. refl, λ t. cc)
  of_op o place at e (suc i, f) = of_end o place at o.ends refl i e f

  end_among : (place end : ℕ) (m : Option ℕ) → m ≡ Some end → IsEventAmong (ends end place) (end_of m place)
  end_among place end None h = cc
  end_among place end (Some other) h = (0, ap (λ z. Some (ends z place)) (same_Some other end h))

  pub all_none : HaveEvents log 0 []
  all_none = record {
    each = λ e h. let none : None ≡ Some e = h.1 in cc;
    begun = λ p o l. absurd (omega arith);
    ended = λ p at o l. absurd (omega arith);
  }

  pub all_more : (n : ℕ) (events : List Event) (o : Operation W) → slice_get log n ≡ Some o → HaveEvents log n events →
      HaveEvents log (n + 1) (events ++ events_of o n)
  all_more n events o at yet = record { each = each; begun = begun; ended = ended }
    where
      each : (e : Event) → IsEventAmong e (events ++ events_of o n) → IsEvent log e
      each e h = elim (among_either events (events_of o n) e h) [ inl a ↦ yet.each e a | inr a ↦ of_op o n at e a ]

      begun : (p : ℕ) (a : Operation W) → p < n + 1 → slice_get log p ≡ Some a → IsEventAmong (begins a.starts p) (events ++ events_of o n)
      begun p a l pa = elim (cases_lt p n) [
        | inl less ↦ among_front events (events_of o n) (begins a.starts p) (yet.begun p a less pa)
        | inr le ↦
            let same : p ≡ n = omega arith in
            let one : o ≡ a = same_Some o a (sym at ∙ (ap (slice_get log) (sym same) ∙ pa)) in
            let P : Operation W → Type 0 = λ z. IsEventAmong (begins z.starts n) (events_of o n) in
            let Q : ℕ → Type 0 = λ z. IsEventAmong (begins a.starts z) (events_of o n) in
            among_more events (events_of o n) (begins a.starts p) (subst Q (sym same) (subst P one (0, refl)))
      ]

      ended : (p end : ℕ) (a : Operation W) → p < n + 1 → slice_get log p ≡ Some a → a.ends ≡ Some end →
          IsEventAmong (ends end p) (events ++ events_of o n)
      ended p end a l pa h = elim (cases_lt p n) [
        | inl less ↦ among_front events (events_of o n) (ends end p) (yet.ended p end a less pa h)
        | inr le ↦
            let same : p ≡ n = omega arith in
            let one : o ≡ a = same_Some o a (sym at ∙ (ap (slice_get log) (sym same) ∙ pa)) in
            let his : o.ends ≡ Some end = ap (λ (z : Operation W). z.ends) one ∙ h in
            let f = end_among n end o.ends his in
            let Q : ℕ → Type 0 = λ z. IsEventAmong (ends end z) (events_of o n) in
            among_more events (events_of o n) (ends end p) (subst Q (sym same) (suc f.0, f.1))
      ]

  pub turns_more : (n : ℕ) (turns : List Turn) (o : Operation W) → slice_get log n ≡ Some o → HaveEvents log n (events_at log turns) →
      HaveEvents log (n + 1) (events_at log (turns ++ turns_of o n))
  turns_more n turns o at yet =
      let P : List Event → Type 0 = λ z. HaveEvents log (n + 1) z in
      subst P (sym (map-append (event_of log) turns (turns_of o n) ∙ ap (λ z. events_at log turns ++ z) (turns_stand log n o at)))
      (all_more n (events_at log turns) o at yet)
