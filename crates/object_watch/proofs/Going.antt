-- What goes on: by one end, by a pure operation, and by what is alike.
use Rattle.std.proofs.Common.{◌≡◌, ◌≢◌, ◌&&◌, not, is_some, ℕ, zero, suc, ◌+◌, ◌<◌, ◌≤◌, Bool, true, false, cond}
use Rattle.std.proofs.Common.{nat_eq, nat_le, List, [], ◌∷◌, ◌++◌, length, map}
use Rattle.std.proofs.Common.{slice_get, Option, None, Some, refl, sym, ◌∙◌, ap, subst, arith, ◌↔◌, ◌⊎◌, inl, inr}
use Rattle.std.proofs.lemmas.Bool.Decides.{nat_tests}
use Rattle.std.proofs.lemmas.List.{length-map}
use Rattle.std.proofs.lemmas.Option.{same_Some, slice_get_within}
use Rattle.object_core.specs.declared.operation.Operation.{Operation}
use Rattle.object_core.specs.Logs.{IsLawfulOrder, IsLinearizable}
use Rattle.object_sweep.specs.Rests.{IsRest, RunForwards}
use Rattle.object_sweep.proofs.InPlace.{in_place, long_renamed, renamed}
use Rattle.object_sweep.proofs.Pure.{long_without, without_pure}
use Rattle.object_sweep.specs.inner.Steps.{IsInPlaceOf}
use Rattle.object_sweep.specs.Reached.{without}
use Rattle.object_watch.specs.Remainders.{IsAhead, ComesFrom, IsLawfulWith, known, known_end, removed}
use Rattle.object_watch.specs.inner.Levels.{LeavesAll}
use Rattle.object_watch.proofs.FirstEnds.{first_end, first_end_order, OrderOut, OrderPlaced, PlacesOne}
use Rattle.object_watch.proofs.Removing.{down, lowered, raised, up}

-- what is known of an end is the end
end_known : (last : ℕ) (ends : Option ℕ) (end : ℕ) → known_end last ends ≡ Some end → ends ≡ Some end
end_known last None end e = cc
end_known last (Some at) end e = by_test (nat_le at last) e
  where
    by_test : (b : Bool) → cond b (Some at) None ≡ Some end → Some at ≡ Some end
    by_test true f = f
    by_test false f = cc

known_by : (last : ℕ) (ends : Option ℕ) (end : ℕ) → ends ≡ Some end → end ≤ last → known_end last ends ≡ Some end
known_by last ends end e le =
    let b : nat_le end last ≡ true = grind (arith, nat_tests) in
    ap (known_end last) e ∙ ap (λ z. cond z (Some end) None) b

known_most : (last : ℕ) (ends : Option ℕ) (end : ℕ) → known_end last ends ≡ Some end → end ≤ last
known_most last None end e = cc
known_most last (Some at) end e = by_test (nat_le at last) refl e
  where
    by_test : (b : Bool) → nat_le at last ≡ b → cond b (Some at) None ≡ Some end → end ≤ last
    by_test true f g =
        let l : at ≤ last = grind (arith, nat_tests) in
        let same = same_Some at end g in omega (arith, l, same)
    by_test false f g = cc

both_true : (x y : Bool) → (x && y) ≡ true → (x ≡ true) × (y ≡ true)
both_true true y e = (refl, e)
both_true false y e = cc

some_of : (ends : Option ℕ) → is_some ends ≡ true → (end : ℕ) × (ends ≡ Some end)
some_of None e = cc
some_of (Some end) e = (end, refl)

-- what may be in the place of another may be so however much is known
known_in_place : {S W : Type 0} (after : S → W → Option S) (last : ℕ) (a b : Operation W) → IsInPlaceOf after a b →
    IsInPlaceOf after (known last a) (known last b)
known_in_place after last a b h = record { same = h.same; due = due; sooner = sooner }
  where
    sooner : (end : ℕ) → known_end last b.ends ≡ Some end → (at : ℕ) × (known_end last a.ends ≡ Some at) × (at ≤ end)
    sooner end e =
        let most = known_most last b.ends end e in
        let s = h.sooner end (end_known last b.ends end e) in
        let l = s.2 in (s.0, known_by last a.ends s.0 s.1 (omega (arith, l, most)), l)

    due : (is_some (known_end last b.ends) && not b.maybe) ≡ true → (is_some (known_end last a.ends) && not a.maybe) ≡ true
    due e =
        let parts = both_true (is_some (known_end last b.ends)) (not b.maybe) e in
        let end = some_of (known_end last b.ends) parts.0 in
        let there : b.ends ≡ Some end.0 = end_known last b.ends end.0 end.1 in
        let was : (is_some b.ends && not b.maybe) ≡ true = ap (λ z. is_some z && not b.maybe) there ∙ parts.1 in
        let own = both_true (is_some a.ends) (not a.maybe) (h.due was) in
        let s = sooner end.0 end.1 in ap (λ z. is_some z && not a.maybe) s.1 ∙ own.1

module _ {X : Type 0} where
  -- an entry of one list or of the other
  pub of_both : (xs ys : List X) (i : ℕ) (x : X) → slice_get (xs ++ ys) i ≡ Some x →
      ((i < length xs) × (slice_get xs i ≡ Some x)) ⊎ ((j : ℕ) × (slice_get ys j ≡ Some x) × (i ≡ length xs + j))
  of_both [] ys i x e = inr (i, e, omega arith)
  of_both (z ∷ xs) ys zero x e = inl (omega arith, e)
  of_both (z ∷ xs) ys (suc i) x e = elim (of_both xs ys i x e) [
    | inl h ↦ let l = h.0 in inl (omega (arith, l), h.1)
    | inr h ↦ let far = h.2 in inr (h.0, h.1, omega (arith, far))
  ]

  pub in_both : (xs ys : List X) (i : ℕ) (x : X) → slice_get xs i ≡ Some x → slice_get (xs ++ ys) i ≡ Some x
  in_both [] ys i x e = cc
  in_both (z ∷ xs) ys zero x e = e
  in_both (z ∷ xs) ys (suc i) x e = in_both xs ys i x e

  pub removed_both : (q : ℕ) (xs ys : List X) → q < length xs → removed q (xs ++ ys) ≡ removed q xs ++ ys
  removed_both q [] ys l = absurd (omega (arith, l))
  removed_both zero (x ∷ xs) ys l = refl
  removed_both (suc q) (x ∷ xs) ys l = ap (λ zs. x ∷ zs) (removed_both q xs ys (omega (arith, l)))

module _ {X Y : Type 0} (f : X → Y) where
  pub at_map : (xs : List X) (i : ℕ) (x : X) → slice_get xs i ≡ Some x → slice_get (map f xs) i ≡ Some (f x)
  at_map [] i x e = cc
  at_map (z ∷ xs) zero x e = ap (λ y. Some (f y)) (same_Some z x e)
  at_map (z ∷ xs) (suc i) x e = at_map xs i x e

  pub of_map : (xs : List X) (i : ℕ) (y : Y) → slice_get (map f xs) i ≡ Some y → (x : X) × (slice_get xs i ≡ Some x) × (f x ≡ y)
  of_map [] i y e = cc
  of_map (z ∷ xs) zero y e = (z, refl, same_Some (f z) y e)
  of_map (z ∷ xs) (suc i) y e = of_map xs i y e

  pub removed_map : (q : ℕ) (xs : List X) → removed q (map f xs) ≡ map f (removed q xs)
  removed_map q [] = refl
  removed_map zero (x ∷ xs) = refl
  removed_map (suc q) (x ∷ xs) = ap (λ zs. f x ∷ zs) (removed_map q xs)

module _ {S W : Type 0} (after : S → W → Option S) (end last : ℕ) (future : List (Operation W)) (is : ComesFrom (end + 1) last future)
    (s : S) (rest : List (Operation W)) (ahead : IsAhead end rest) where
  abbrev whole : List (Operation W)
  whole = map (known last) (rest ++ future)

  -- where an operation of the whole comes from
  from : (r : ℕ) (a : Operation W) → slice_get whole r ≡ Some a → (o : Operation W) × (known last o ≡ a)
      × (((r < length rest) × (slice_get rest r ≡ Some o)) ⊎ ((j : ℕ) × (slice_get future j ≡ Some o) × (r ≡ length rest + j)))
  from r a e =
      let m = of_map (known last) (rest ++ future) r a e in
      (m.0, m.2, of_both rest future r m.0 m.1)

  later_ends : (r at : ℕ) (a : Operation W) → slice_get whole r ≡ Some a → a.ends ≡ Some at → end ≤ at
  later_ends r at a e ends =
      let f = from r a e in
      let is_end : f.0.ends ≡ Some at = end_known last f.0.ends at (ap (λ (o : Operation W). o.ends) f.1 ∙ ends) in
      elim f.2 [
        | inl h ↦ ahead.ends r at f.0 h.1 is_end
        | inr h ↦
            let began = is.begins h.0 f.0 h.1 in
            let forth = is.forwards h.0 at f.0 h.1 is_end in omega (arith, began, forth)
      ]

  forth : RunForwards whole
  forth r at a e ends =
      let f = from r a e in
      let is_end : f.0.ends ≡ Some at = end_known last f.0.ends at (ap (λ (o : Operation W). o.ends) f.1 ∙ ends) in
      let same : f.0.starts ≡ a.starts = ap (λ (o : Operation W). o.starts) f.1 in
      elim f.2 [
        | inl h ↦ let l = ahead.forwards r at f.0 h.1 is_end in omega (arith, same, l)
        | inr h ↦ let l = is.forwards h.0 at f.0 h.1 is_end in omega (arith, same, l)
      ]

  removed_whole : (q : ℕ) → q < length rest → removed q whole ≡ map (known last) (removed q rest ++ future)
  removed_whole q l = removed_map (known last) q (rest ++ future) ∙ ap (map (known last)) (removed_both q rest future l)

  -- an operation of the rest, in the whole
  there : (q : ℕ) (a : Operation W) → slice_get rest q ≡ Some a → slice_get whole q ≡ Some (known last a)
  there q a e = at_map (known last) (rest ++ future) q a (in_both rest future q a e)

  -- an operation that began by then is placed
  abbrev pub PlacesLeft : Type 0
  PlacesLeft = (q : ℕ) × (a : Operation W) × (t : S) × (slice_get rest q ≡ Some a) × (a.starts ≤ end)
      × (after s a.what ≡ Some t) × IsLawfulWith after future last t (removed q rest)

  -- one end: it is left out, or one is placed
  pub goes_by_end : (p : ℕ) (o : Operation W) → slice_get rest p ≡ Some o → o.ends ≡ Some end →
      (IsLawfulWith after future last s rest ↔ (((o.maybe ≡ true) × IsLawfulWith after future last s (removed p rest)) ⊎ PlacesLeft))
  goes_by_end p o at ends = (λ h. onward (exact.0 h), λ h. exact.1 (back h))
    where
      exact : IsLinearizable after s whole
          ↔ (((o.maybe ≡ true) × IsLinearizable after s (removed p whole)) ⊎ PlacesOne after whole end s)
      exact = first_end after whole end p (known last o) s forth later_ends (there p o at)
          (known_by last o.ends end ends (let l = is.later in omega (arith, l)))

      onward : ((o.maybe ≡ true) × IsLinearizable after s (removed p whole)) ⊎ PlacesOne after whole end s →
          ((o.maybe ≡ true) × IsLawfulWith after future last s (removed p rest)) ⊎ PlacesLeft
      onward (inl h) = inl (h.0, subst (IsLinearizable after s) (removed_whole p (slice_get_within rest p o at)) h.1)
      onward (inr (q, a, t, qa, began, step, h)) =
          let f = from q a qa in
          let same : f.0.starts ≡ a.starts = ap (λ (z : Operation W). z.starts) f.1 in
          let what : after s f.0.what ≡ Some t = ap (λ (z : Operation W). after s z.what) f.1 ∙ step in
          elim f.2 [
            | inl r ↦ inr (q, f.0, t, r.1, omega (arith, same, began), what, subst (IsLinearizable after t) (removed_whole q r.0) h)
            | inr r ↦ let l = is.begins r.0 f.0 r.1 in absurd (omega (arith, same, began, l))
          ]

      back : ((o.maybe ≡ true) × IsLawfulWith after future last s (removed p rest)) ⊎ PlacesLeft →
          ((o.maybe ≡ true) × IsLinearizable after s (removed p whole)) ⊎ PlacesOne after whole end s
      back (inl h) = inl (h.0, subst (IsLinearizable after s) (sym (removed_whole p (slice_get_within rest p o at))) h.1)
      back (inr (q, a, t, qa, began, step, h)) =
          inr (
            q,
            known last a,
            t,
            there q a qa,
            began,
            step,
            subst (IsLinearizable after t) (sym (removed_whole q (slice_get_within rest q a qa))) h,
          )

  -- the same of one order: it leaves as long a one, or a shorter one
  pub order_by_end : (p : ℕ) (o : Operation W) → slice_get rest p ≡ Some o → o.ends ≡ Some end → (order : List ℕ) →
      IsLawfulOrder after s whole order →
      ((o.maybe ≡ true) × (left : List ℕ) × IsLawfulOrder after s (map (known last) (removed p rest ++ future)) left
      × (length left ≡ length order))
      ⊎ ((q : ℕ) × (a : Operation W) × (t : S) × (slice_get rest q ≡ Some a) × (a.starts ≤ end) × (after s a.what ≡ Some t)
      × (left : List ℕ) × IsLawfulOrder after t (map (known last) (removed q rest ++ future)) left × (length left + 1 ≡ length order))
  order_by_end p o at ends order h = elim by_end [
    | inl x ↦
        let P : List (Operation W) → Type 0 = λ z. IsLawfulOrder after s z x.1 in
        inl (x.0, x.1, subst P (removed_whole p (slice_get_within rest p o at)) x.2, x.3)
    | inr (q, a, t, qa, began, step, left, g, long) ↦
        let f = from q a qa in
        let same : f.0.starts ≡ a.starts = ap (λ (z : Operation W). z.starts) f.1 in
        let what : after s f.0.what ≡ Some t = ap (λ (z : Operation W). after s z.what) f.1 ∙ step in
        let P : List (Operation W) → Type 0 = λ z. IsLawfulOrder after t z left in
        elim f.2 [
          | inl r ↦ inr (q, f.0, t, r.1, omega (arith, same, began), what, left, subst P (removed_whole q r.0) g, long)
          | inr r ↦ let l = is.begins r.0 f.0 r.1 in absurd (omega (arith, same, began, l))
        ]
  ]
    where
      by_end : OrderOut after whole p (known last o) s order ⊎ OrderPlaced after whole end s order
      by_end = first_end_order after whole end p (known last o) s forth (there p o at)
          (known_by last o.ends end ends (let l = is.later in omega (arith, l))) order h

  -- a pure operation that can be placed: it is enough to place it
  pub order_by_pure : (q : ℕ) (a : Operation W) (t : S) → slice_get rest q ≡ Some a → LeavesAll after a → after s a.what ≡ Some t →
      (order : List ℕ) → IsLawfulOrder after s whole order →
      (left : List ℕ) × IsLawfulOrder after t (map (known last) (removed q rest ++ future)) left × (length left ≤ length order)
  order_by_pure q a t qa pure step order h =
      let r : IsRest after whole (λ z. false) s order =
      record { listing = h.listing; precedence = h.precedence; steps = h.steps } in
      let w : IsRest after whole (λ z. nat_eq z q) s (without q order) =
      without_pure after whole q (known last a) (there q a qa) pure (λ z. false) s order r in
      let g : IsLawfulOrder after s (removed q whole) (map (down q) (without q order)) = lowered after whole q s (without q order) w in
      let still : t ≡ s = pure s t step in
      let P : S → Type 0 = λ z. IsLawfulOrder after z (removed q whole) (map (down q) (without q order)) in
      let Q : List (Operation W) → Type 0 = λ z. IsLawfulOrder after t z (map (down q) (without q order)) in
      let long = length-map (without q order) (down q) in
      let most = long_without q order in (
        map (down q) (without q order),
        subst Q (removed_whole q (slice_get_within rest q a qa)) (subst P (sym still) g),
        omega (arith, long, most),
      )

  -- one that may be in the place of another leaves as long an order
  pub order_in_place : (r q : ℕ) (a b : Operation W) → slice_get rest r ≡ Some a → slice_get rest q ≡ Some b → IsInPlaceOf after a b →
      r ≢ q → b.starts ≤ end → (t : S) (left : List ℕ) →
      IsLawfulOrder after t (map (known last) (removed q rest ++ future)) left →
      (other : List ℕ) × IsLawfulOrder after t (map (known last) (removed r rest ++ future)) other × (length other ≡ length left)
  order_in_place r q a b ra qb h ne began t left g =
      let P : List (Operation W) → Type 0 = λ z. IsLawfulOrder after t z left in
      let f : IsRest after whole (λ z. nat_eq z q) t (map (up q) left) =
      raised after whole q t left (subst P (sym (removed_whole q (slice_get_within rest q b qb))) g) in
      let w : IsRest after whole (λ z. nat_eq z r) t (map (renamed r q) (map (up q) left)) =
      in_place after whole forth r q (known last a) (known last b) (there r a ra) (there q b qb) (known_in_place after last a b h) ne
      (λ z. false) end (λ z at x e zx xe. later_ends z at x zx xe) began refl refl t (map (up q) left) f in
      let long = length-map (map (renamed r q) (map (up q) left)) (down r) in
      let named = long_renamed r q (map (up q) left) in
      let raise = length-map left (up q) in
      let Q : List (Operation W) → Type 0 =
      λ z. IsLawfulOrder after t z (map (down r) (map (renamed r q) (map (up q) left))) in (
        map (down r) (map (renamed r q) (map (up q) left)),
        subst Q (removed_whole r (slice_get_within rest r a ra))
            (lowered after whole r t (map (renamed r q) (map (up q) left)) w),
        omega (arith, long, named, raise),
      )
