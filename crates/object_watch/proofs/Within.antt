-- What is within something else: it leaves no more, and its orders are as long there.
use Rattle.std.proofs.Common.{◌≡◌, ℕ, zero, suc, ◌+◌, ◌<◌, ◌≤◌, Bool, true, false, cond, ◌&&◌, not, nat_eq, List, [], ◌∷◌, ◌++◌}
use Rattle.std.proofs.Common.{length, map, take, is_some, slice_get, Option, None, Some, refl, sym, ◌∙◌, ap, subst, arith, inl, inr, ◌↔◌}
use Rattle.std.proofs.lemmas.List.{append_assoc, length-map}
use Rattle.std.proofs.lemmas.Option.{same_Some, slice_get_within}
use Rattle.object_core.specs.declared.operation.Operation.{Operation}
use Rattle.object_core.specs.Logs.{is_due, IsLawfulOrder, IsLinearizable}
use Rattle.object_sweep.specs.Reached.{without}
use Rattle.object_sweep.specs.Rests.{IsRest}
use Rattle.object_sweep.proofs.Placed.{same_number}
use Rattle.object_sweep.proofs.Pure.{without_pure}
use Rattle.object_watch.specs.Remainders.{known, known_end, removed}
use Rattle.object_watch.specs.inner.Levels.{is_spare, is_spare_by, IsAlike, IsNeedless, IsMet, AreWithSpare}
use Rattle.object_watch.specs.inner.Levels.AreWithSpare.{Ends, Alike, Spare}
use Rattle.object_watch.proofs.Alike.{AreAlike, order_alike}
use Rattle.object_watch.proofs.Going.{at_map}
use Rattle.object_watch.proofs.Going.{removed_map}
use Rattle.object_watch.proofs.Removing.{let_in, lowered, raised, up}
use Rattle.object_watch.proofs.Taking.{take_one_more}

and_false : (b : Bool) → (b && false) ≡ false
and_false true = refl
and_false false = refl

-- what may have done nothing, or never ended, isn't due, however much is known of it
unsure : (ends : Option ℕ) (maybe : Bool) (last : ℕ) → (is_some ends && not maybe) ≡ false →
    (is_some (known_end last ends) && not maybe) ≡ false
unsure None maybe last e = refl
unsure (Some at) true last e = and_false (is_some (known_end last (Some at)))
unsure (Some at) false last e = cc

spare_unsure : (end : ℕ) (ends : Option ℕ) (maybe : Bool) → is_spare_by end ends maybe ≡ true → (is_some ends && not maybe) ≡ false
spare_unsure end None maybe e = refl
spare_unsure end (Some at) true e = refl
spare_unsure end (Some at) false e = cc

due_needed : (end : ℕ) (ends : Option ℕ) (maybe : Bool) → (is_some ends && not maybe) ≡ true → is_spare_by end ends maybe ≡ false
due_needed end None maybe e = cc
due_needed end (Some at) true e = cc
due_needed end (Some at) false e = refl

-- what ends then isn't spare
pub ending_needed : (end : ℕ) (ends : Option ℕ) (maybe : Bool) → ends ≡ Some end → is_spare_by end ends maybe ≡ false
ending_needed end ends maybe e =
    ap (λ z. is_spare_by end z maybe) e ∙ (ap (λ b. maybe && not b) (same_number end) ∙ and_false maybe)

module _ {X : Type 0} where
  removed_at : (q : ℕ) (pre : List X) (x : X) (post : List X) → q ≡ length pre → removed q (pre ++ x ∷ post) ≡ pre ++ post
  removed_at zero [] x post e = refl
  removed_at zero (p ∷ pre) x post e = absurd (omega (arith, e))
  removed_at (suc q) [] x post e = absurd (omega (arith, e))
  removed_at (suc q) (p ∷ pre) x post e = ap (λ zs. p ∷ zs) (removed_at q pre x post (omega (arith, e)))

  stands_at : (q : ℕ) (pre : List X) (x : X) (post : List X) → q ≡ length pre → slice_get (pre ++ x ∷ post) q ≡ Some x
  stands_at zero [] x post e = refl
  stands_at zero (p ∷ pre) x post e = absurd (omega (arith, e))
  stands_at (suc q) [] x post e = absurd (omega (arith, e))
  stands_at (suc q) (p ∷ pre) x post e = stands_at q pre x post (omega (arith, e))

module _ {W : Type 0} (end : ℕ) where
  pub due_is_needed : (o : Operation W) → is_due o ≡ true → is_spare end o ≡ false
  due_is_needed o e = due_needed end o.ends o.maybe e

  -- how many of these aren't spare
  abbrev pub needed : List (Operation W) → ℕ
  needed [] = 0
  needed (o ∷ rest) = cond (is_spare end o) 0 1 + needed rest

  pub needed_no_more : (q : ℕ) (rest : List (Operation W)) → needed (removed q rest) ≤ needed rest
  needed_no_more q [] = omega arith
  needed_no_more zero (o ∷ rest) = omega arith
  needed_no_more (suc q) (o ∷ rest) = let l = needed_no_more q rest in omega (arith, l)

  pub needed_fewer : (q : ℕ) (rest : List (Operation W)) (o : Operation W) → slice_get rest q ≡ Some o → is_spare end o ≡ false →
      needed (removed q rest) < needed rest
  needed_fewer q [] o at e = cc
  needed_fewer zero (x ∷ rest) o at e =
      let same : x ≡ o = same_Some x o at in
      let count : Bool → ℕ = λ b. cond b 0 1 in
      let one : count (is_spare end x) ≡ 1 = ap (λ (z : Operation W). count (is_spare end z)) same ∙ ap count e in
      omega (arith, one)
  needed_fewer (suc q) (x ∷ rest) o at e = let l = needed_fewer q rest o at e in omega (arith, l)

module _ {S W : Type 0} (after : S → W → Option S) where
  module _ (end : ℕ) where
    pub within_itself : (rest : List (Operation W)) → AreWithSpare after end rest rest
    within_itself [] = Ends
    within_itself (o ∷ rest) = Alike o o rest rest (refl, refl, refl, λ s. refl) (within_itself rest)

    -- one more of each, and one more of the others
    pub within_alike : (a b : Operation W) {rest others : List (Operation W)} → IsAlike after a b → AreWithSpare after end rest others →
        AreWithSpare after end (rest ++ a ∷ []) (others ++ b ∷ [])
    within_alike a b h Ends = Alike a b [] [] h Ends
    within_alike a b h (Alike x y xs ys e w) = Alike x y (xs ++ a ∷ []) (ys ++ b ∷ []) e (within_alike a b h w)
    within_alike a b h (Spare y xs ys e w) = Spare y (xs ++ a ∷ []) (ys ++ b ∷ []) e (within_alike a b h w)

    pub within_spare : (b : Operation W) {rest others : List (Operation W)} → is_spare end b ≡ true → AreWithSpare after end rest others →
        AreWithSpare after end rest (others ++ b ∷ [])
    within_spare b h Ends = Spare b [] [] h Ends
    within_spare b h (Alike x y xs ys e w) = Alike x y xs (ys ++ b ∷ []) e (within_spare b h w)
    within_spare b h (Spare y xs ys e w) = Spare y xs (ys ++ b ∷ []) e (within_spare b h w)

    -- one more of the others is met
    pub within_next : (rest others : List (Operation W)) (met i more : ℕ) (b : Operation W) → slice_get others i ≡ Some b →
        (met ≤ length rest) × AreWithSpare after end (take met rest) (take i others) → IsMet after end rest met b more →
        (more ≤ length rest) × AreWithSpare after end (take more rest) (take (i + 1) others)
    within_next rest others met i more b bt h (inl (a, at, alike, is)) =
        let P : List (Operation W) → Type 0 = λ z. AreWithSpare after end z (take (i + 1) others) in
        let Q : List (Operation W) → Type 0 = λ z. AreWithSpare after end (take met rest ++ a ∷ []) z in
        let R : ℕ → Type 0 = λ z. (z ≤ length rest) × AreWithSpare after end (take z rest) (take (i + 1) others) in
        let l = slice_get_within rest met a at in
        subst R (sym is) (
          omega (arith, l),
          subst P (sym (take_one_more met rest a at)) (subst Q (sym (take_one_more i others b bt)) (within_alike a b alike h.1)),
        )
    within_next rest others met i more b bt h (inr (e, is)) =
        let Q : List (Operation W) → Type 0 = λ z. AreWithSpare after end (take met rest) z in
        let R : ℕ → Type 0 = λ z. (z ≤ length rest) × AreWithSpare after end (take z rest) (take (i + 1) others) in
        subst R (sym is) (h.0, subst Q (sym (take_one_more i others b bt)) (within_spare b e h.1))

    pub needed_within : {rest others : List (Operation W)} → AreWithSpare after end rest others → needed end rest ≡ needed end others
    needed_within Ends = refl
    needed_within (Alike a b xs ys e w) =
        let same : is_spare end a ≡ is_spare end b = ap (λ z. is_spare_by end z a.maybe) e.1 ∙ ap (λ z. is_spare_by end b.ends z) e.2 in
        ap (λ z. cond z 0 1 + needed end xs) same ∙ ap (λ n. cond (is_spare end b) 0 1 + n) (needed_within w)
    needed_within (Spare b xs ys e w) =
        let count : Bool → ℕ = λ z. cond z 0 1 in
        let none : count (is_spare end b) ≡ 0 = ap count e in
        let m = needed_within w in omega (arith, none, m)

    -- the same operations, and spare ones
    data Fewer : List (Operation W) → List (Operation W) → Type 0 where
      NoMore : Fewer [] []
      Keeps : (b : Operation W) (mid others : List (Operation W)) → Fewer mid others → Fewer (b ∷ mid) (b ∷ others)
      Skips : (b : Operation W) (mid others : List (Operation W)) → is_spare end b ≡ true → Fewer mid others → Fewer mid (b ∷ others)

    alike_more : (a b : Operation W) (xs ys : List (Operation W)) → IsAlike after a b → AreAlike after xs ys →
        AreAlike after (a ∷ xs) (b ∷ ys)
    alike_more a b xs ys h all = record { long = (let l = all.long in omega (arith, l)); each = each }
      where
        each : (i : ℕ) (x y : Operation W) → slice_get (a ∷ xs) i ≡ Some x → slice_get (b ∷ ys) i ≡ Some y → IsAlike after x y
        each zero x y e f =
            let P : Operation W → Type 0 = λ z. IsAlike after z y in
            let Q : Operation W → Type 0 = λ z. IsAlike after a z in subst P (same_Some a x e) (subst Q (same_Some b y f) h)
        each (suc i) x y e f = all.each i x y e f

    between : {rest others : List (Operation W)} → AreWithSpare after end rest others →
        (mid : List (Operation W)) × AreAlike after rest mid × Fewer mid others
    between Ends = ([], record { long = refl; each = λ i a b e f. cc }, NoMore)
    between (Alike a b xs ys e w) = let m = between w in (b ∷ m.0, alike_more a b xs m.0 e m.1, Keeps b m.0 ys m.2)
    between (Spare b xs ys e w) = let m = between w in (m.0, m.1, Skips b m.0 ys e m.2)

  module _ (future : List (Operation W)) (last : ℕ) where
    -- one that isn't due is left out, or put back
    abbrev with_one : List (Operation W) → Operation W → List (Operation W) → List (Operation W)
    with_one pre b post = map (known last) (pre ++ b ∷ post)

    removed_one : (pre post : List (Operation W)) (b : Operation W) →
        removed (length pre) (with_one pre b post) ≡ map (known last) (pre ++ post)
    removed_one pre post b = removed_map (known last) (length pre) (pre ++ b ∷ post)
        ∙ ap (map (known last)) (removed_at (length pre) pre b post refl)

    stands_one : (pre post : List (Operation W)) (b : Operation W) → slice_get (with_one pre b post) (length pre) ≡ Some (known last b)
    stands_one pre post b = at_map (known last) (pre ++ b ∷ post) (length pre) b (stands_at (length pre) pre b post refl)

    pub put_back : (pre post : List (Operation W)) (b : Operation W) → is_due b ≡ false → (s : S) (order : List ℕ) →
        IsLawfulOrder after s (map (known last) (pre ++ post)) order →
        IsLawfulOrder after s (with_one pre b post) (map (up (length pre)) order)
    put_back pre post b idle s order h =
        let P : List (Operation W) → Type 0 = λ z. IsLawfulOrder after s z order in
        let_in after (with_one pre b post) (length pre) (known last b) (stands_one pre post b) (unsure b.ends b.maybe last idle) s
        (map (up (length pre)) order)
        (raised after (with_one pre b post) (length pre) s order (subst P (sym (removed_one pre post b)) h))

    pub idle_out : (pre post : List (Operation W)) (b : Operation W) → IsNeedless after b → (s : S) →
        (IsLinearizable after s (with_one pre b post) ↔ IsLinearizable after s (map (known last) (pre ++ post)))
    idle_out pre post b idle s = (onward, λ h. (map (up (length pre)) h.0, put_back pre post b idle.0 s h.0 h.1))
      where
        onward : IsLinearizable after s (with_one pre b post) → IsLinearizable after s (map (known last) (pre ++ post))
        onward h =
            let r : IsRest after (with_one pre b post) (λ z. false) s h.0 =
            record { listing = h.1.listing; precedence = h.1.precedence; steps = h.1.steps } in
            let w : IsRest after (with_one pre b post) (λ z. nat_eq z (length pre)) s (without (length pre) h.0) =
            without_pure after (with_one pre b post) (length pre) (known last b) (stands_one pre post b) idle.1 (λ z. false) s h.0 r in
            let it : IsLinearizable after s (removed (length pre) (with_one pre b post)) =
            (_, lowered after (with_one pre b post) (length pre) s (without (length pre) h.0) w) in
            subst (IsLinearizable after s) (removed_one pre post b) it

    module _ (end : ℕ) where
      all_back : {mid others : List (Operation W)} → Fewer end mid others → (pre : List (Operation W)) (s : S) (order : List ℕ) →
          IsLawfulOrder after s (map (known last) (pre ++ (mid ++ future))) order →
          (longer : List ℕ) × IsLawfulOrder after s (map (known last) (pre ++ (others ++ future))) longer × (length longer ≡ length order)
      all_back NoMore pre s order h = (order, h, refl)
      all_back (Keeps b mid others f) pre s order h =
          let P : List (Operation W) → Type 0 = λ z. IsLawfulOrder after s (map (known last) z) order in
          let r = all_back f (pre ++ b ∷ []) s order (subst P (sym (append_assoc pre (b ∷ []) (mid ++ future))) h) in
          let Q : List (Operation W) → Type 0 = λ z. IsLawfulOrder after s (map (known last) z) r.0 in
          (r.0, subst Q (append_assoc pre (b ∷ []) (others ++ future)) r.1, r.2)
      all_back (Skips b mid others e f) pre s order h =
          let r = all_back f pre s order h in (
            map (up (length pre)) r.0,
            put_back pre (others ++ future) b (spare_unsure end b.ends b.maybe e) s r.0 r.1,
            length-map r.0 (up (length pre)) ∙ r.2,
          )

      -- the others have an order as long
      pub order_within : {rest others : List (Operation W)} → AreWithSpare after end rest others → (s : S) (order : List ℕ) →
          IsLawfulOrder after s (map (known last) (rest ++ future)) order →
          (longer : List ℕ) × IsLawfulOrder after s (map (known last) (others ++ future)) longer × (length longer ≡ length order)
      order_within {rest = rest} w s order h =
          let m = between end w in all_back m.2 [] s order (order_alike after future last rest m.0 m.1 s order h)
