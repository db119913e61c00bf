-- What nothing tells apart goes on alike.
use Rattle.std.proofs.Common.{◌≡◌, ℕ, ◌+◌, ◌<◌, ◌&&◌, not, List, [], ◌∷◌, ◌++◌, length, map, is_some, get_or}
use Rattle.std.proofs.Common.{slice_get, Option, Some, refl, sym, ◌∙◌, ap, subst, arith, ◌⊎◌, inl, inr}
use Rattle.std.specs.Prelude.{IsSomeAnd}
use Rattle.std.proofs.lemmas.List.{length-append}
use Rattle.std.proofs.lemmas.Option.{same_Some, slice_get_within, slice_get-get_or}
use Rattle.object_core.specs.declared.operation.Operation.{Operation}
use Rattle.object_core.specs.Logs.{CanMake, is_due, IsLawfulOrder, KeepsPrecedence, MayStand, NonePrecedes}
use Rattle.history_core.specs.Orders.{times_of}
use Rattle.object_watch.specs.Remainders.{known, known_end}
use Rattle.object_watch.specs.inner.Levels.{IsAlike}
use Rattle.object_watch.proofs.Going.{of_both, of_map}

module _ {S W : Type 0} (after : S → W → Option S) where
  -- nothing tells two lists apart
  pub record AreAlike (rest other : List (Operation W)) : Type 0 where
    pub long : length rest ≡ length other
    pub each : (i : ℕ) (a b : Operation W) → slice_get rest i ≡ Some a → slice_get other i ≡ Some b → IsAlike after a b

  -- what stands at a place of one stands there alike in the other
  partner : (xs ys : List (Operation W)) → AreAlike xs ys → (i : ℕ) (b : Operation W) → slice_get ys i ≡ Some b →
      (a : Operation W) × (slice_get xs i ≡ Some a)
  partner xs ys h i b e =
      let l = slice_get_within ys i b e in
      let long = h.long in (get_or xs i b, slice_get-get_or xs i b (omega (arith, l, long)))

  other_partner : (xs ys : List (Operation W)) → AreAlike xs ys → (i : ℕ) (a : Operation W) → slice_get xs i ≡ Some a →
      (b : Operation W) × (slice_get ys i ≡ Some b)
  other_partner xs ys h i a e =
      let l = slice_get_within xs i a e in
      let long = h.long in (get_or ys i a, slice_get-get_or ys i a (omega (arith, l, long)))

  module _ (xs ys : List (Operation W)) (h : AreAlike xs ys) where
    steps : (s : S) (order : List ℕ) → CanMake after xs s order → CanMake after ys s order
    steps s [] can = tt
    steps s (p ∷ order) can =
        let b = other_partner xs ys h p can.0 can.2 in
        let e = h.each p can.0 b.0 can.2 b.1 in
        (b.0, can.1, b.1, sym (e.3 s) ∙ can.3, steps can.1 order can.4)

    precedence : (order : List ℕ) → KeepsPrecedence xs order → KeepsPrecedence ys order
    precedence [] k = tt
    precedence (p ∷ order) k = (first, precedence order k.1)
      where
        first : NonePrecedes ys order p
        first r a b stood ra pb before =
            let a' = partner xs ys h r a ra in
            let b' = partner xs ys h p b pb in
            let ea = h.each r a'.0 a a'.1 ra in
            let eb = h.each p b'.0 b b'.1 pb in
            let P : Option ℕ → Type 0 = λ z. IsSomeAnd z (λ end. end < b.starts) in
            let Q : ℕ → Type 0 = λ z. IsSomeAnd a'.0.ends (λ end. end < z) in
            k.0 r a'.0 b'.0 stood a'.1 b'.1 (subst Q (sym eb.0) (subst P (sym ea.1) before))

    pub same_order : (s : S) (order : List ℕ) → IsLawfulOrder after s xs order → IsLawfulOrder after s ys order
    same_order s order l =
        record { listing = listing; precedence = precedence order l.precedence; steps = steps s order l.steps }
      where
        listing : (p : ℕ) (o : Operation W) → slice_get ys p ≡ Some o → MayStand (is_due o) (times_of p order)
        listing p o at =
            let a = partner xs ys h p o at in
            let e = h.each p a.0 o a.1 at in
            let due : is_due a.0 ≡ is_due o = ap (λ z. is_some z && not a.0.maybe) e.1 ∙ ap (λ z. is_some o.ends && not z) e.2 in
            subst (λ b. MayStand b (times_of p order)) due (l.listing p a.0 a.1)

  module _ (future : List (Operation W)) (last : ℕ) (xs ys : List (Operation W)) (h : AreAlike xs ys) where
    whole : AreAlike (map (known last) (xs ++ future)) (map (known last) (ys ++ future))
    whole = record { long = long; each = each }
      where
        same_long : {X Y : Type 0} (f : X → Y) (us vs : List X) → length us ≡ length vs → length (map f us) ≡ length (map f vs)
        same_long f [] [] e = refl
        same_long f [] (v ∷ vs) e = absurd (omega (arith, e))
        same_long f (u ∷ us) [] e = absurd (omega (arith, e))
        same_long f (u ∷ us) (v ∷ vs) e = let r = same_long f us vs (omega (arith, e)) in omega (arith, r)

        long : length (map (known last) (xs ++ future)) ≡ length (map (known last) (ys ++ future))
        long = same_long (known last) (xs ++ future) (ys ++ future)
            (let a = length-append xs future in let b = length-append ys future in let c = h.long in omega (arith, a, b, c))

        each : (i : ℕ) (a b : Operation W) → slice_get (map (known last) (xs ++ future)) i ≡ Some a →
            slice_get (map (known last) (ys ++ future)) i ≡ Some b →
            (a.starts ≡ b.starts) × (a.ends ≡ b.ends) × (a.maybe ≡ b.maybe) × ((s : S) → after s a.what ≡ after s b.what)
        each i a b ia ib =
            let u = of_map (known last) (xs ++ future) i a ia in
            let v = of_map (known last) (ys ++ future) i b ib in
            let e = pair u.0 v.0 (of_both xs future i u.0 u.1) (of_both ys future i v.0 v.1) in (
              sym (ap (λ (o : Operation W). o.starts) u.2) ∙ (e.0 ∙ ap (λ (o : Operation W). o.starts) v.2),
              sym (ap (λ (o : Operation W). o.ends) u.2) ∙ (ap (known_end last) e.1 ∙ ap (λ (o : Operation W). o.ends) v.2),
              sym (ap (λ (o : Operation W). o.maybe) u.2) ∙ (e.2 ∙ ap (λ (o : Operation W). o.maybe) v.2),
              λ s. sym (ap (λ (o : Operation W). after s o.what) u.2) ∙ (e.3 s ∙ ap (λ (o : Operation W). after s o.what) v.2),
            )
          where
            pair : (o p : Operation W) → ((i < length xs) × (slice_get xs i ≡ Some o)) ⊎
                ((j : ℕ) × (slice_get future j ≡ Some o) × (i ≡ length xs + j)) →
                ((i < length ys) × (slice_get ys i ≡ Some p)) ⊎ ((j : ℕ) × (slice_get future j ≡ Some p) × (i ≡ length ys + j)) →
                (o.starts ≡ p.starts) × (o.ends ≡ p.ends) × (o.maybe ≡ p.maybe) × ((s : S) → after s o.what ≡ after s p.what)
            pair o p (inl m) (inl n) = h.each i o p m.1 n.1
            pair o p (inl m) (inr n) = let l = m.0 in let f = n.2 in let c = h.long in absurd (omega (arith, l, f, c))
            pair o p (inr m) (inl n) = let l = n.0 in let f = m.2 in let c = h.long in absurd (omega (arith, l, f, c))
            pair o p (inr m) (inr n) =
                let same : m.0 ≡ n.0 = let f = m.2 in let g = n.2 in let c = h.long in omega (arith, f, g, c) in
                let e : o ≡ p = same_Some o p (sym m.1 ∙ (ap (slice_get future) same ∙ n.1)) in (
                  ap (λ (z : Operation W). z.starts) e,
                  ap (λ (z : Operation W). z.ends) e,
                  ap (λ (z : Operation W). z.maybe) e,
                  λ s. ap (λ (z : Operation W). after s z.what) e,
                )

    pub order_alike : (s : S) (order : List ℕ) → IsLawfulOrder after s (map (known last) (xs ++ future)) order →
        IsLawfulOrder after s (map (known last) (ys ++ future)) order
    order_alike s order g = same_order (map (known last) (xs ++ future)) (map (known last) (ys ++ future)) whole s order g
