-- Between two looks no pass changes, so the greatest record is the same; the other consequences are parts of what is shown.
use Rattle.std.proofs.Common.{◌≡◌, ◌≢◌, Bool, ℕ, zero, suc, ◌+◌, ◌<◌, ◌≤◌, List, [], ◌∷◌, ◌++◌, length, map, slice_get, Some, None}
use Rattle.std.proofs.Common.{refl, sym, ◌∙◌, ap, subst, ◌⊎◌, inl, inr, arith}
use Rattle.std.proofs.lemmas.Bool.{cases_eq, cases_order}
use Rattle.std.proofs.lemmas.Option.{none-some, same_Some, slice_get_within}
use Rattle.matrix_core.specs.declared.stamp.Stamp.{Stamp}
use Rattle.matrix_core.specs.Choices.{IsAtMost}
use Rattle.matrix_core.specs.Stamps.{IsBelow}
use Rattle.cell_contract.specs.Intervals.{IsBeginning}
use Rattle.cell_contract.specs.declared.family.Family.{Ghosts as FamilyWords}
use Rattle.cell_contract.specs.Ends.{IsAtomicCell}
use Rattle.board_live.specs.declared.board.Board.{Board}
use Rattle.board_live.specs.declared.board.Pass.{Pass}
use Rattle.board_live.specs.declared.record.Posted.{Posted}
use Rattle.board_live.specs.Ends.{AllAtomic, did_by, HaveAtomicOrder, IsGreatest, standing}
use Rattle.theorem_uses.specs.Going.{AnswersTheOpening, ReadsTheOnlyWriteSoFar, RegistersHaveEnded}
use Rattle.theorem_uses.proofs.Ended.{reads_the_only}

not_below : (a b : Stamp) → IsBelow a b → IsAtMost b a → ⊥
not_below a b below (inl same) = irreflexive b (subst (λ z. IsBelow z b) (sym same) below)
  where
    irreflexive : (s : Stamp) → IsBelow s s → ⊥
    irreflexive s (inl l) = omega (arith, l)
    irreflexive s (inr e) = let l = e.1 in omega (arith, l)
not_below a b below (inr above) = both a b below above
  where
    both : (a b : Stamp) → IsBelow a b → IsBelow b a → ⊥
    both a b (inl l) (inl m) = omega (arith, l, m)
    both a b (inl l) (inr e) = let m = e.0 in omega (arith, l, m)
    both a b (inr e) (inl l) = let m = e.0 in omega (arith, l, m)
    both a b (inr e) (inr f) = let l = e.1 in let m = f.1 in omega (arith, l, m)

-- what stands at a place of a list that is mapped as another stands at that place of the other, and is mapped as that
mapped_back : {A B : Type 0} (f : A → B) (xs ys : List A) (i : ℕ) (y : A) → map f ys ≡ map f xs → slice_get ys i ≡ Some y →
    (x : A) × (slice_get xs i ≡ Some x) × (f y ≡ f x)
mapped_back f xs ys i y e at = found f xs i (f y) (ap (λ z. slice_get z i) (sym e) ∙ at_map f ys i y at)
  where
    at_map : {A B : Type 0} (f : A → B) (ys : List A) (i : ℕ) (y : A) → slice_get ys i ≡ Some y → slice_get (map f ys) i ≡ Some (f y)
    at_map f [] i y e = absurd (none-some y e)
    at_map f (z ∷ ys) zero y e = ap (λ s. Some (f s)) (same_Some z y e)
    at_map f (z ∷ ys) (suc i) y e = at_map f ys i y e

    found : {A B : Type 0} (f : A → B) (xs : List A) (i : ℕ) (z : B) → slice_get (map f xs) i ≡ Some z →
        (x : A) × (slice_get xs i ≡ Some x) × (z ≡ f x)
    found f [] i z e = absurd (none-some z e)
    found f (x ∷ xs) zero z e = (x, refl, sym (same_Some (f x) z e))
    found f (x ∷ xs) (suc i) z e = found f xs i z e

nothing_in : {A : Type 0} (xs ys : List A) → IsBeginning xs ys → ys ≡ [] → xs ≡ []
nothing_in [] ys h e = refl
nothing_in (x ∷ xs) ys h e = absurd (long (sym e ∙ h.1))
  where
    long : [] ≡ x ∷ (xs ++ h.0) → ⊥
    long e = let l : 0 ≡ length (x ∷ (xs ++ h.0)) = ap length e in omega (arith, l)

none_of : {A : Type 0} (xs : List A) → length xs ≡ 0 → xs ≡ []
none_of [] e = refl
none_of (x ∷ xs) e = absurd (omega (arith, e))

found : {A : Type 0} (xs : List A) (p : ℕ) → p < length xs → (x : A) × (slice_get xs p ≡ Some x)
found [] p l = absurd (omega arith)
found (x ∷ xs) zero l = (x, refl)
found (x ∷ xs) (suc p) l = found xs p (omega arith)

only_opening : {A : Type 0} (first x : A) (items : List A) (n : ℕ) → items ≡ [] → slice_get (first ∷ items) n ≡ Some x → x ≡ first
only_opening first x items zero e at = sym (same_Some first x at)
only_opening first x items (suc n) e at = absurd (none-some x (ap (λ z. slice_get z n) (sym e) ∙ at))

module _ {V F S T : Type 0} where
  own_of : (p q : Pass V F S T) → standing p ≡ standing q → p.own ≡ q.own
  own_of p q e = ap (λ (z : ℕ × Posted V × Bool × S). z.1) e

  -- of passes that are the same but for their memory the greatest record is the same
  pub one_greatest : (old new : List (Pass V F S T)) (a b : Posted V) → map standing new ≡ map standing old → IsGreatest old a →
      IsGreatest new b → a ≡ b
  one_greatest old new a b same first second =
      let there = mapped_back standing old new second.process second.pass same second.there in
      let back = mapped_back standing new old first.process first.pass (sym same) first.there in
      let own_b : there.0.own ≡ b = sym (own_of second.pass there.0 there.2) ∙ sym second.own in
      let own_a : back.0.own ≡ a = sym (own_of first.pass back.0 back.2) ∙ sym first.own in
      elim (cases_order first.process second.process) [
        | inl one ↦
            first.own ∙ ap (λ (p : Pass V F S T). p.own) (same_Some first.pass there.0
            (sym first.there ∙ ap (slice_get old) one ∙ there.1)) ∙ own_b
        | inr (inl before) ↦
            let below = subst (λ z. IsBelow z.stamp b.stamp) own_a (second.earliest first.process back.0 before back.1) in
            let most = subst (λ z. IsAtMost z.stamp a.stamp) own_b (first.greatest second.process there.0 there.1) in
            absurd (not_below a.stamp b.stamp below most)
        | inr (inr after) ↦
            let below = subst (λ z. IsBelow z.stamp a.stamp) own_b (first.earliest second.process there.0 after there.1) in
            let most = subst (λ z. IsAtMost z.stamp b.stamp) own_a (second.greatest first.process back.0 back.1) in
            absurd (not_below b.stamp a.stamp below most)
      ]

module _ {V F S T : Type 0} (words : FamilyWords F (Posted V) S T) (board : Board V F S T) (passes : List (Pass V F S T)) where
  pub reads_so_far : (last : Posted V) → HaveAtomicOrder words board passes last → ReadsTheOnlyWriteSoFar words board passes
  reads_so_far last atomic calls i k j m write read made only l at reads later =
      reads_the_only words board (did_by words passes calls) last i k j m write read (atomic calls made) only l at reads later

  pub answers_the_opening : AllAtomic words board passes → AnswersTheOpening words board passes
  answers_the_opening all i j p q at_p at_q ne none =
      let h : IsAtomicCell board.first (words.writes p.seat j) (words.reads q.seat i) = all i j p q at_p at_q ne in
      let empty : length (words.writes p.seat j).items ≡ 0 = ap length none in
      let ended = h.ended in
      let begun = h.atomic.writes_begun in (
        nothing_in (words.reads q.seat i).known.items (words.writes p.seat j).items h.known.items none,
        none_of (words.writes p.seat j).times.ends (omega (arith, empty, ended, begun)),
        λ k x e.
            let within = slice_get_within (words.reads q.seat i).answers k x e in
            let many = h.atomic.regular.numbered in
            let n = found (words.reads q.seat i).numbers k (omega (arith, within, many)) in
            only_opening board.first x (words.writes p.seat j).items n.0 none (h.atomic.regular.source k n.0 x n.1 e),
      )

module _ {V F S T : Type 0} (words : FamilyWords F (Posted V) S T) where
  pub have_ended : RegistersHaveEnded words
  have_ended board passes i j p q all at_p at_q ne = let h = all i j p q at_p at_q ne in (h.ended, h.known)
