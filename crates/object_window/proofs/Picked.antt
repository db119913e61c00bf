-- What a window shows: of a lawful order what lies between its moments, without what it leaves out, is one of its log.
use Rattle.std.proofs.Common.{◌≡◌, ◌≢◌, ℕ, ◌+◌, ◌<◌, ◌≤◌, Bool, true, false, ◌||◌, ◌&&◌, not, cond, nat_le, nat_lt, List, [], ◌∷◌}
use Rattle.std.proofs.Common.{get_or, slice_get, is_some, Option, None, Some, refl, sym, ◌∙◌, ap, subst, arith, ◌⊎◌, inl, inr}
use Rattle.std.specs.Prelude.{IsSomeAnd}
use Rattle.std.proofs.lemmas.Bool.{and_parts, cases_Bool, cases_eq, cases_lt}
use Rattle.std.proofs.lemmas.Bool.Decides.{nat_tests}
use Rattle.std.proofs.lemmas.Option.{same_Some, slice_get_within, slice_get-get_or}
use Rattle.history_core.specs.Orders.{times_of}
use Rattle.object_core.specs.declared.operation.Operation.{Operation}
use Rattle.object_core.specs.Logs.{CanMake, is_due, IsLinearizable, KeepsPrecedence, MayStand, NonePrecedes, Precedes}
use Rattle.object_registers.specs.declared.exchanging.Exchange.{Exchange}
use Rattle.object_registers.specs.declared.exchanging.Exchanging.{Exchanging}
use Rattle.object_registers.specs.Registers.{exchanging_after}
use Rattle.object_sweep.specs.Reached.{is_in}
use Rattle.object_sweep.specs.Rests.{RunForwards}
use Rattle.object_sweep.proofs.Lists.{at_is_in, is_in_at}
use Rattle.object_sweep.proofs.Placed.{ended_before, ends_before, times_here, times_there}
use Rattle.object_window.specs.Windows.{end_by, IsLostAnywhere, IsUnseen, IsWindow, seen}
use Rattle.object_window.proofs.Alike.{AreAlike, both_made, left_out}
use Rattle.object_window.proofs.Middles.{IsMiddle, middle}

-- what is seen of an end is the end
end_seen : (last : ℕ) (ends : Option ℕ) (end : ℕ) → end_by last ends ≡ Some end → (ends ≡ Some end) × (end ≤ last)
end_seen last None end e = cc
end_seen last (Some at) end e = by_test (nat_le at last) refl e
  where
    by_test : (b : Bool) → nat_le at last ≡ b → cond b (Some at) None ≡ Some end → (Some at ≡ Some end) × (end ≤ last)
    by_test true f g =
        let same : at ≡ end = same_Some at end g in
        let le : at ≤ last = grind (arith, nat_tests) in (g, omega (arith, le, same))
    by_test false f g = cc

not_less : (m n : ℕ) → nat_lt m n ≡ false → n ≤ m
not_less m n e = grind (arith, nat_tests)

-- an operation that is due as it is seen is due, began no earlier than the first moment, and ended by the last one
pub due_seen : {W : Type 0} (first last : ℕ) (o : Operation W) → is_due (seen first last o) ≡ true →
    (end : ℕ) × (is_due o ≡ true) × (first ≤ o.starts) × (o.ends ≡ Some end) × (end ≤ last)
due_seen first last o due =
    let p = and_parts (is_some (end_by last o.ends)) (not (o.maybe || nat_lt o.starts first)) due in
    by_end (end_by last o.ends) refl p.0 p.1
  where
    sure : (a b : Bool) → not (a || b) ≡ true → (a ≡ false) × (b ≡ false)
    sure false false e = (refl, refl)
    sure true b e = cc
    sure false true e = cc

    is_due_at : (ends : Option ℕ) (may : Bool) (end : ℕ) → ends ≡ Some end → may ≡ false → (is_some ends && not may) ≡ true
    is_due_at ends may end e f = ap (λ (z : Option ℕ). is_some z && not may) e ∙ ap not f

    by_end : (m : Option ℕ) → end_by last o.ends ≡ m → is_some m ≡ true → not (o.maybe || nat_lt o.starts first) ≡ true →
        (end : ℕ) × (is_due o ≡ true) × (first ≤ o.starts) × (o.ends ≡ Some end) × (end ≤ last)
    by_end None e h s = cc
    by_end (Some end) e h s =
        let seen_end = end_seen last o.ends end e in
        let n = sure o.maybe (nat_lt o.starts first) s in
        (end, is_due_at o.ends o.maybe end seen_end.0 n.0, not_less o.starts first n.1, seen_end.0, seen_end.1)

-- what is seen to precede precedes
pub precedes_seen : {W : Type 0} (first last : ℕ) (a b : Operation W) → Precedes (seen first last a) (seen first last b) → Precedes a b
precedes_seen first last a b h =
    let w = ends_before (end_by last a.ends) b.starts h in
    ended_before a.ends w.0 b.starts (end_seen last a.ends w.0 w.1).0 w.2

module _ (first last : ℕ) (places : List ℕ) (log little : List (Operation Exchange)) (is : IsWindow first last places log little) where
  apart : (i j p : ℕ) → slice_get places i ≡ Some p → slice_get places j ≡ Some p → i ≡ j
  apart i j p ip jp = elim (cases_lt i j) [
    | inl l ↦ let less = is.rising i j p p l ip jp in absurd (omega (arith, less))
    | inr le ↦ elim (cases_lt j i) [
      | inl l ↦ let less = is.rising j i p p l jp ip in absurd (omega (arith, less))
      | inr ge ↦ omega (arith, le, ge)
    ]
  ]

  -- where an operation of the little log comes from
  abbrev Source : ℕ → Operation Exchange → Type 0
  Source i a = (p : ℕ) × (o : Operation Exchange) × (slice_get places i ≡ Some p) × (slice_get log p ≡ Some o) × (seen first last o ≡ a)

  source : (i : ℕ) (a : Operation Exchange) → slice_get little i ≡ Some a → Source i a
  source i a at =
      let l = slice_get_within little i a at in
      let long = is.there.long in
      let e : slice_get places i ≡ Some (get_or places i 0) = slice_get-get_or places i 0 (omega (arith, l, long)) in
      let o = is.there.each i (get_or places i 0) e in
      (get_or places i 0, o.0, e, o.1, same_Some (seen first last o.0) a (sym o.2 ∙ at))

  -- of these entries those of the window, by their places in it
  record IsPicked (mid order : List ℕ) (y : Exchanging) : Type 0 where
    times : (i p : ℕ) → slice_get places i ≡ Some p → times_of i order ≡ times_of p mid
    precedence : KeepsPrecedence little order
    steps : CanMake exchanging_after little y order

  abbrev MayBeLeftOut : List ℕ → Type 0
  MayBeLeftOut mid = (q : ℕ) (o : Operation Exchange) → slice_get log q ≡ Some o → 0 < times_of q mid → is_in q places ≡ false →
      IsUnseen little o.what

  -- one more in front
  module _ (p : ℕ) (rest : List ℕ) (o : Operation Exchange) (at : slice_get log p ≡ Some o) (y : Exchanging) where
    left : (order : List ℕ) → is_in p places ≡ false → IsPicked rest order y → IsPicked (p ∷ rest) order y
    left order out h = record { times = times; precedence = h.precedence; steps = h.steps }
      where
        times : (i q : ℕ) → slice_get places i ≡ Some q → times_of i order ≡ times_of q (p ∷ rest)
        times i q iq =
            let other : p ≢ q = λ s.
            let there : is_in q places ≡ true = is_in_at places i q iq in
            let P : ℕ → Type 0 = λ z. is_in z places ≡ true in
            let here : is_in p places ≡ true = subst P (sym s) there in cc in
            h.times i q iq ∙ sym (times_there q p rest other)

    taken : (order : List ℕ) (i : ℕ) → slice_get places i ≡ Some p → NonePrecedes log rest p → (u : Exchanging) →
        exchanging_after y o.what ≡ Some u → IsPicked rest order u → IsPicked (p ∷ rest) (i ∷ order) y
    taken order i ip free u made h = record { times = times; precedence = (kept, h.precedence); steps = steps }
      where
        times : (j q : ℕ) → slice_get places j ≡ Some q → times_of j (i ∷ order) ≡ times_of q (p ∷ rest)
        times j q jq = elim (cases_eq i j) [
          | inl e ↦
              let P : ℕ → Type 0 = λ z. slice_get places z ≡ Some p in
              let same : p ≡ q = same_Some p q (sym (subst P e ip) ∙ jq) in
              let a : times_of j (i ∷ order) ≡ 1 + times_of j order = ap (λ z. times_of j (z ∷ order)) e ∙ times_here j order in
              let b : times_of q (p ∷ rest) ≡ 1 + times_of q rest = ap (λ z. times_of q (z ∷ rest)) same ∙ times_here q rest in
              let c = h.times j q jq in omega (arith, a, b, c)
          | inr ne ↦
              let other : p ≢ q = λ s. ne (apart i j q (ip ∙ ap Some s) jq) in
              times_there j i order ne ∙ (h.times j q jq ∙ sym (times_there q p rest other))
        ]

        kept : NonePrecedes little order i
        kept j a b stood ja ib before =
            let from = source j a ja in
            let here = is.there.each i p ip in
            let same_o : here.0 ≡ o = same_Some here.0 o (sym here.1 ∙ at) in
            let same_b : seen first last o ≡ b =
            ap (seen first last) (sym same_o) ∙ same_Some (seen first last here.0) b (sym here.2 ∙ ib) in
            let P : Operation Exchange → Type 0 = λ z. Precedes z b in
            let Q : Operation Exchange → Type 0 = λ z. Precedes (seen first last from.1) z in
            let seen_before : Precedes (seen first last from.1) (seen first last o) =
            subst Q (sym same_b) (subst P (sym from.4) before) in
            let times_j = h.times j from.0 from.2 in
            free from.0 from.1 o (omega (arith, times_j, stood)) from.3 at (precedes_seen first last from.1 o seen_before)

        steps : CanMake exchanging_after little y (i ∷ order)
        steps =
            let here = is.there.each i p ip in
            let same_o : here.0 ≡ o = same_Some here.0 o (sym here.1 ∙ at) in
            let P : Operation Exchange → Type 0 = λ z. exchanging_after y z.what ≡ Some u in
            (seen first last here.0, u, here.2, subst P (sym same_o) made, h.steps)

  picked : (mid : List ℕ) (x y : Exchanging) → KeepsPrecedence log mid → CanMake exchanging_after log x mid → MayBeLeftOut mid →
      AreAlike little x y → (order : List ℕ) × IsPicked mid order y
  picked [] x y kept steps out alike = ([], record { times = λ i p e. refl; precedence = tt; steps = tt })
  picked (p ∷ rest) x y kept steps out alike =
      by_place (cases_Bool (is_in p places)) (λ z. picked rest steps.1 z kept.1 steps.4 later)
    where
      stands : 0 < times_of p (p ∷ rest)
      stands = let here = times_here p rest in omega (arith, here)

      later : MayBeLeftOut rest
      later q o at l = out q o at (more q l)
        where
          more : (z : ℕ) → 0 < times_of z rest → 0 < times_of z (p ∷ rest)
          more z m = elim (cases_eq p z) [
            | inl e ↦ let P : ℕ → Type 0 = λ n. 0 < times_of n (p ∷ rest) in subst P e stands
            | inr ne ↦ let there = times_there z p rest ne in omega (arith, there, m)
          ]

      by_place : (is_in p places ≡ true) ⊎ (is_in p places ≡ false) →
          ((z : Exchanging) → AreAlike little steps.1 z → (order : List ℕ) × IsPicked rest order z) →
          (order : List ℕ) × IsPicked (p ∷ rest) order y
      by_place (inl there) more =
          let w = at_is_in places p there in
          let here = is.there.each w.0 p w.1 in
          let same : here.0 ≡ steps.0 = same_Some here.0 steps.0 (sym here.1 ∙ steps.2) in
          let s = both_made little x y steps.0.what steps.1 steps.3 alike w.0 (seen first last here.0) here.2
          (ap (λ (z : Operation Exchange). z.what) same) in
          let m = more s.0 s.2 in
          (w.0 ∷ m.0, taken p rest steps.0 steps.2 y m.0 w.0 w.1 kept.0 s.0 s.1 m.1)
      by_place (inr none) more =
          let unseen = out p steps.0 steps.2 stands none in
          let m = more y (left_out little x y steps.0.what steps.1 steps.3 unseen alike) in
          (m.0, left p rest steps.0 steps.2 y m.0 none m.1)

  -- so the little log has a lawful order
  from_middle : (s : Exchanging) (mid : List ℕ) → IsMiddle exchanging_after log first last s mid →
      IsLinearizable exchanging_after s little
  from_middle s mid h = (pick.0, record { listing = listing; precedence = pick.1.precedence; steps = pick.1.steps })
    where
      out : MayBeLeftOut mid
      out q o at stood none = by_case (is.others q o at none)
        where
          by_case : IsSomeAnd o.ends (λ end. end < first) ⊎ ((last < o.starts) ⊎ IsUnseen little o.what) → IsUnseen little o.what
          by_case (inl ended) =
              let w = ends_before o.ends first ended in
              let late = h.late q w.0 o at stood w.1 in absurd (omega (arith, late, w.2))
          by_case (inr (inl began)) = let early = h.early q o at stood in absurd (omega (arith, early, began))
          by_case (inr (inr unseen)) = unseen

      pick : (order : List ℕ) × IsPicked mid order s
      pick = picked mid s s h.precedence h.steps out (λ i o at looks. refl)

      listing : (i : ℕ) (a : Operation Exchange) → slice_get little i ≡ Some a → MayStand (is_due a) (times_of i pick.0)
      listing i a at = by_due (is_due a) refl
        where
          from : Source i a
          from = source i a at

          same : times_of i pick.0 ≡ times_of from.0 mid
          same = pick.1.times i from.0 from.2

          by_due : (b : Bool) → is_due a ≡ b → MayStand b (times_of i pick.0)
          by_due true e =
              let d = due_seen first last from.1 (ap is_due from.4 ∙ e) in
              same ∙ h.due from.0 d.0 from.1 from.3 d.1 d.2 d.3 d.4
          by_due false e = let once = h.once from.0 from.1 from.3 in omega (arith, once, same)

pub unlawful : (opening : Exchanging) (log little : List (Operation Exchange)) (first last : ℕ) (places : List ℕ) → RunForwards log →
    IsWindow first last places log little → IsLostAnywhere little → ¬ IsLinearizable exchanging_after opening log
unlawful opening log little first last places forwards is lost lawful =
    let m = middle exchanging_after log forwards opening lawful.0 lawful.1 first last in
    lost m.0 (from_middle first last places log little is m.0 m.1 m.2)
