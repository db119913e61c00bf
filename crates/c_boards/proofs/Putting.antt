-- Sides that are put into handles, the last first.
use Rattle.std.proofs.Common.{◌≡◌, ◌≢◌, ℕ, ◌<◌, ◌≤◌, ◌+◌, List, [], ◌∷◌, ◌++◌, length, length-append, append_assoc, set, get_or}
use Rattle.std.proofs.Common.{refl, sym, ◌∙◌, ap, subst, arith, ⊎_elim}
use Rattle.std.specs.Prelude.{slice_get, Some}
use Rattle.std.specs.Global.{Box}
use Rattle.std.proofs.lemmas.Option.{same_Some, slice_get_within, slice_get_read}
use Rattle.std.proofs.lemmas.List.{length-set}
use Rattle.matrix_core.proofs.lists.Elements.{get_set, same_or_not}
use Rattle.c_boards.specs.Opens.{AreBoxed}
use Rattle.c_boards.specs.Places.{NoneLive, HaveBoxed, HaveAll}
use Rattle.c_boards.proofs.Pairing.{append_nothing, stands_before, paired_length, paired_get}

-- an element after a write at another place, and at this one
get_other : {X : Type 0} (xs : List X) (i k : ℕ) (y z : X) → k ≢ i → slice_get (set xs i y) k ≡ Some z → slice_get xs k ≡ Some z
get_other xs i k y z ne at = ⊎_elim (λ p. absurd (ne p.0)) (λ p. p.1) (get_set xs i k y z at)

get_here : {X : Type 0} (xs : List X) (i : ℕ) (y z : X) → slice_get (set xs i y) i ≡ Some z → z ≡ y
get_here xs i y z at = ⊎_elim (λ p. p.1) (λ p. absurd (p.0 refl)) (get_set xs i i y z at)

module _ {H D : Type 0} (live : H → ℕ) (side : H → D) (code : ℕ) where
  abbrev HasSide : H → D → Type 0
  HasSide h d = (live h ≡ code) × (side h ≡ d)

  pub record PutFrom (whole left : List (Box D)) (hs : List H) : Type 0 where
    pub done : List (Box D)
    pub of : whole ≡ left ++ done
    pub counts : length hs ≡ length whole
    pub dead : (k : ℕ) (h : H) → k < length left → slice_get hs k ≡ Some h → live h ≡ 0
    pub put : (k : ℕ) (b : Box D) (h : H) → length left ≤ k → slice_get whole k ≡ Some b → slice_get hs k ≡ Some h → HasSide h b.value

  pub put_none : (whole : List (Box D)) (hs : List H) → NoneLive live side hs → length hs ≡ length whole → PutFrom whole whole hs
  put_none whole hs none counts = record {
    done = [];
    of = append_nothing whole;
    counts = counts;
    dead = λ k h lt at. none k h at;
    put = λ k b h le at_b at_h. absurd (let lt : k < length whole = slice_get_within whole k b at_b in omega (arith, lt, le));
  }

  pub put_more : (whole before left : List (Box D)) (hs : List H) (b : Box D) (h : H) → PutFrom whole before hs
      → before ≡ left ++ b ∷ [] → HasSide h b.value → PutFrom whole left (set hs (length left) h)
  put_more whole before left hs b h inv e has =
      let n : length before ≡ length left + 1 = ap length e ∙ length-append left (b ∷ []) in
      let whole_is = inv.of ∙ ap (λ z. z ++ inv.done) e in
      let long : length whole ≡ length before + length inv.done = ap length inv.of ∙ length-append before inv.done in
      let stands : slice_get whole (length left) ≡ Some b = ap (λ z. slice_get z (length left)) whole_is ∙ stands_before left b inv.done in
      record {
        done = b ∷ inv.done;
        of = whole_is ∙ append_assoc left (b ∷ []) inv.done;
        counts = length-set hs (length left) h ∙ inv.counts;
        dead = λ k g below at. inv.dead k g (omega (arith, n, below))
            (get_other hs (length left) k h g (λ (s : k ≡ length left). omega (arith, s, below)) at);
        put = λ k c g le at_c at_g. ⊎_elim
            (λ (s : k ≡ length left).
            let here : slice_get (set hs (length left) h) (length left) ≡ Some g =
            subst (λ z. slice_get (set hs (length left) h) z ≡ Some g) s at_g in
            let g_is : g ≡ h = get_here hs (length left) h g here in
            let c_is : c ≡ b = same_Some c b (sym at_c ∙ ap (slice_get whole) s ∙ stands) in
            subst (λ z. HasSide z c.value) (sym g_is) (subst (λ (z : Box D). HasSide h z.value) (sym c_is) has))
            (λ (ne : k ≢ length left). inv.put k c g (omega (arith, n, le, ne)) at_c (get_other hs (length left) k h g ne at_g))
            (same_or_not k (length left));
      }

  pub put_all : (whole left : List (Box D)) (hs : List H) → PutFrom whole left hs → length left ≡ 0 → HaveBoxed live side code whole hs
  put_all whole left hs inv e = (inv.counts, λ k b h at_b at_h. inv.put k b h (omega (arith, e)) at_b at_h)

  -- one more handle without a side
  pub none_more : (hs : List H) (k : ℕ) (e : H) → ((j : ℕ) (h : H) → j < k → slice_get hs j ≡ Some h → live h ≡ 0)
      → k < length hs → e ≡ get_or hs k e → live e ≡ 0 → (j : ℕ) (h : H) → j < k + 1 → slice_get hs j ≡ Some h → live h ≡ 0
  none_more hs k e inv lt read dead j h below at = ⊎_elim
      (λ (s : j ≡ k).
      let e_is : e ≡ h =
      same_Some e h (sym (slice_get_read hs (length hs) k e refl lt read) ∙ subst (λ z. slice_get hs z ≡ Some h) s at) in
      subst (λ (z : H). live z ≡ 0) e_is dead)
      (λ (ne : j ≢ k). inv j h (omega (arith, below, ne)) at)
      (same_or_not j k)

  -- the boxes of places are in the handles, and so are the places
  pub have_all : {S : Type 0} (place : S → D) (ss : List S) (bs : List (Box D)) (hs : List H) → AreBoxed place ss bs
      → HaveBoxed live side code bs hs → HaveAll live side code place ss hs
  have_all place ss bs hs p h = (
    h.0 ∙ sym (paired_length _ ss bs p),
    λ k s x at_s at_h.
        let b = paired_get _ ss bs k s p at_s in
        subst (HasSide x) b.2 (h.1 k b.0 x b.1 at_h),
  )

  -- the next handle, from the end, has no side
  pub put_next : (whole before left : List (Box D)) (hs : List H) (b : Box D) (k : ℕ) (e : H) → PutFrom whole before hs
      → before ≡ left ++ b ∷ [] → k ≡ length left → e ≡ get_or hs k e → live (get_or hs k e) ≡ 0
  put_next whole before left hs b k e inv is at read =
      let n : length before ≡ length left + 1 = ap length is ∙ length-append left (b ∷ []) in
      let long : length whole ≡ length before + length inv.done = ap length inv.of ∙ length-append before inv.done in
      let c = inv.counts in let lt : k < length hs = omega (arith, n, long, c, at) in
      subst (λ (z : H). live z ≡ 0) read (inv.dead k e (omega (arith, n, at)) (slice_get_read hs (length hs) k e refl lt read))
