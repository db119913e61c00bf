-- Seats are joined into one, the last first: the one then has the processes of all of them.
use Rattle.std.proofs.Common.{◌≡◌, ℕ, zero, suc, ◌+◌, List, [], ◌∷◌, ◌++◌, length, slice_get, Some, refl, sym, ap, ◌∙◌, subst, arith}
use Rattle.std.proofs.Common.{append_assoc}
use Rattle.std.proofs.lemmas.Option.{none-some, same_Some}
use mathlib.Core.Option.{some}
use lib.ListN.{get_elem?}
use Rattle.atomic_table.proofs.Lists.{at_longer}
use Rattle.cell_contract.specs.Ends.{Each}
use Rattle.family_table.specs.Seats.{joined}
use Rattle.family_table.specs.declared.notes.Process.{Process}
use Rattle.family_table.specs.declared.notes.View.{View}
use Rattle.family_table.specs.declared.notes.View.TheVariants.{Has}

module _ {A : Type 0} where
  -- one more of which it holds
  pub each_more : (P : ℕ → A → Type 0) (xs : List A) (x : A) → Each P xs → P (length xs) x → Each P (xs ++ x ∷ [])
  each_more P xs x each here i y e = at P xs x i y (λ j z h. each j z h) here e where
    at : {A : Type 0} (P : ℕ → A → Type 0) (xs : List A) (x : A) (i : ℕ) (y : A) →
        ((j : ℕ) (z : A) → slice_get xs j ≡ Some z → P j z) → P (length xs) x → slice_get (xs ++ x ∷ []) i ≡ Some y → P i y
    at P [] x zero y each here e = subst (P 0) (same_Some x y e) here
    at P [] x (suc i) y each here e = absurd (none-some y e)
    at P (z ∷ zs) x zero y each here e = each 0 y e
    at P (z ∷ zs) x (suc i) y each here e = at (λ j. P (suc j)) zs x i y (λ j w h. each (suc j) w h) here e

  -- of the first ones too
  pub each_fewer : (P : ℕ → A → Type 0) (all xs : List A) (x : A) → all ≡ xs ++ x ∷ [] → Each P all → Each P xs
  each_fewer P all xs x is each i y e = each i y (ap (λ zs. slice_get zs i) is ∙ front xs (x ∷ []) i y e) where
    front : (xs ys : List A) (i : ℕ) (y : A) → slice_get xs i ≡ Some y → slice_get (xs ++ ys) i ≡ Some y
    front [] ys i y e = absurd (none-some y e)
    front (z ∷ zs) ys zero y e = e
    front (z ∷ zs) ys (suc i) y e = front zs ys i y e

  -- the last one stands there
  pub stood : (seats before left done : List A) (s : A) → seats ≡ before ++ done → before ≡ left ++ s ∷ [] →
      slice_get seats (length left) ≡ Some s
  stood seats before left done s of e = ap (λ z. slice_get z (length left)) (of ∙ ap (λ z. z ++ done) e) ∙ mid left done s where
    mid : {A : Type 0} (left done : List A) (s : A) → slice_get ((left ++ s ∷ []) ++ done) (length left) ≡ Some s
    mid [] done s = refl
    mid (x ∷ xs) done s = mid xs done s

  at_last : (xs ys : List A) (a : ℕ) → get_elem? (xs ++ ys) (length xs + a) ≡ get_elem? ys a
  at_last [] ys a = ap (get_elem? ys) (let z : 0 + a ≡ a = omega arith in z)
  at_last (x ∷ xs) ys a = ap (get_elem? (x ∷ (xs ++ ys))) (let e : suc (length xs) + a ≡ suc (length xs + a) = omega arith in e)
      ∙ at_last xs ys a

-- `known` is what the process of a seat knows
module _ {A V : Type 0} (known : A → Process V) where
  -- the last seats were joined into one, which has this view
  pub record GatheredFrom (seats left : List A) (view : View V) : Type 0 where
    pub ps : List (Process V)
    pub me : view ≡ Has ps
    pub done : List A
    pub of : seats ≡ left ++ done
    pub there : (s : A) (i : ℕ) → slice_get done i ≡ Some s → (a : ℕ) × (get_elem? ps a ≡ some (known s))

  pub gathered_one : (seats left : List A) (s : A) (view : View V) → view ≡ Has (known s ∷ []) → seats ≡ left ++ s ∷ [] →
      GatheredFrom seats left view
  gathered_one seats left s view me of = record {
    ps = known s ∷ [];
    me = me;
    done = s ∷ [];
    of = of;
    there = λ z i e. one s z i e;
  } where
    one : (s z : A) (i : ℕ) → slice_get (s ∷ []) i ≡ Some z → (a : ℕ) × (get_elem? (known s ∷ []) a ≡ some (known z))
    one s z zero e = (zero, ap (λ y. some (known y)) (same_Some s z e))
    one s z (suc i) e = absurd (none-some z e)

  pub gathered_more : (seats before left : List A) (view view' : View V) (s : A) → (h : GatheredFrom seats before view) →
      before ≡ left ++ s ∷ [] → view' ≡ Has (h.ps ++ known s ∷ []) → GatheredFrom seats left view'
  gathered_more seats before left view view' s h e me = record {
    ps = h.ps ++ known s ∷ [];
    me = me;
    done = s ∷ h.done;
    of = h.of ∙ (ap (λ z. z ++ h.done) e ∙ append_assoc left (s ∷ []) h.done);
    there = λ z i at. next h.ps h.done s z i (λ y j q. h.there y j q) at;
  } where
    next : (ps : List (Process V)) (done : List A) (s z : A) (i : ℕ) →
        ((y : A) (j : ℕ) → slice_get done j ≡ Some y → (a : ℕ) × (get_elem? ps a ≡ some (known y))) →
        slice_get (s ∷ done) i ≡ Some z → (a : ℕ) × (get_elem? (ps ++ known s ∷ []) a ≡ some (known z))
    next ps done s z zero there e = (length ps + 0, at_last ps (known s ∷ []) 0 ∙ ap (λ y. some (known y)) (same_Some s z e))
    next ps done s z (suc i) there e = let t = there z i e in (t.0, at_longer ps (known s ∷ []) t.0 (known z) t.1)

  -- all of them were
  pub gathered_all : (seats left : List A) (view : View V) → GatheredFrom seats left view → length left ≡ 0 →
      (ps : List (Process V)) × (view ≡ Has ps)
      × ((i : ℕ) (s : A) → slice_get seats i ≡ Some s → (a : ℕ) × (get_elem? ps a ≡ some (known s)))
  gathered_all seats [] view h e = (h.ps, h.me, λ i s at. h.there s i (ap (λ z. slice_get z i) (sym h.of) ∙ at))
  gathered_all seats (x ∷ xs) view h e = absurd (omega (arith, e))

module _ {S V : Type 0} where
  -- what one seat with no slots knows, before what another knows
  pub joined_in : (m a b : View V × List (ℕ × S)) (x : View V) (p : Process V) (ps : List (Process V)) →
      m ≡ (joined a.0 b.0, a.1) → a ≡ (x, []) → x ≡ Has (p ∷ []) → b ≡ (Has ps, []) → m ≡ (Has (p ∷ ps), [])
  joined_in m a b x p ps is from one more = is ∙ (λ i. (joined ((ap (λ z. z.0) from ∙ one) i) ((more i).0), (from i).1))

  -- a seat that knew one process, which was taken off and put back, is as it was
  pub put_again : (m a b last : View V × List (ℕ × S)) (p : Process V) →
      m ≡ (joined a.0 b.0, a.1) → a ≡ (Has [], last.1) → b ≡ (Has (p ∷ []), []) → last.0 ≡ Has (p ∷ []) → m ≡ last
  put_again m a b last p is from one was = is ∙ ((λ i. (joined ((from i).0) ((one i).0), (from i).1)) ∙ (λ i. (sym was i, last.1)))
