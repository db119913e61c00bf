-- The instances, place by place.
use Rattle.std.proofs.Common.{◌≡◌, ℕ, ◌+◌, ◌<◌, List, [], ◌∷◌, slice_get, None, Some, zero, suc, refl, sym, subst, arith, false}
use Rattle.std.proofs.lemmas.Option.{same_Some}
use Rattle.history_core.proofs.Listing.{times_cons}
use Rattle.history_core.specs.Orders.{times_of}
use Rattle.object_core.specs.declared.operation.Operation.{Operation}
use Rattle.object_core.specs.Instances.{cell_after, ended, get_beside_put, stale_get, Touch, unfinished_put}
use Rattle.object_core.specs.Instances.Touch.{Gets, Puts}
use Rattle.object_core.specs.Logs.{CanMake, IsLawfulOrder, is_due, MayStand, NonePrecedes, Precedes}

-- what is at a place is what the log has there
stand : (o a : Operation Touch) (times : ℕ) → Some o ≡ Some a → MayStand (is_due o) times → MayStand (is_due a) times
stand o a times e h = let P : Operation Touch → Type 0 = λ z. MayStand (is_due z) times in subst P (same_Some o a e) h

before : (o u a b : Operation Touch) → Some o ≡ Some a → Some u ≡ Some b → Precedes a b → Precedes o u
before o u a b e f h =
    let P : Operation Touch → Type 0 = λ z. Precedes z b in
    let Q : Operation Touch → Type 0 = λ z. Precedes o z in
    subst Q (sym (same_Some u b f)) (subst P (sym (same_Some o a e)) h)

beside_stand : (p : ℕ) (o : Operation Touch) → slice_get get_beside_put p ≡ Some o → MayStand (is_due o) (times_of p (0 ∷ 1 ∷ []))
beside_stand zero o e = stand _ o 1 e refl
beside_stand (suc zero) o e = stand _ o 1 e refl
beside_stand (suc (suc p)) o e = cc

beside_first : NonePrecedes get_beside_put (1 ∷ []) 0
beside_first zero a b is e f pre = let l : 4 < 1 = before _ _ a b e f pre in omega arith
beside_first (suc zero) a b is e f pre = let l : 3 < 1 = before _ _ a b e f pre in omega arith
beside_first (suc (suc q)) a b is e f pre = cc

beside_last : NonePrecedes get_beside_put [] 1
beside_last q a b is e f pre = omega arith

pub beside : IsLawfulOrder cell_after 0 get_beside_put (0 ∷ 1 ∷ [])
beside = record {
  listing = beside_stand;
  precedence = (beside_first, (beside_last, tt));
  steps = (_, 1, refl, refl, (_, 1, refl, refl, tt));
}

unfinished_stand : (p : ℕ) (o : Operation Touch) → slice_get unfinished_put p ≡ Some o →
    MayStand (is_due o) (times_of p (1 ∷ 0 ∷ 2 ∷ []))
unfinished_stand zero o e = stand (record { starts = 1; ends = None; maybe = false; what = Puts 1 }) o 1 e (omega arith)
unfinished_stand (suc zero) o e = stand _ o 1 e refl
unfinished_stand (suc (suc zero)) o e = stand _ o 1 e refl
unfinished_stand (suc (suc (suc p))) o e = cc

unfinished_first : NonePrecedes unfinished_put (0 ∷ 2 ∷ []) 1
unfinished_first zero a b is e f pre =
    before (record { starts = 1; ends = None; maybe = false; what = Puts 1 }) (ended 2 3 (Gets 0)) a b e f pre
unfinished_first (suc zero) a b is e f pre = let l : 3 < 2 = before _ _ a b e f pre in omega arith
unfinished_first (suc (suc zero)) a b is e f pre = let l : 5 < 2 = before _ _ a b e f pre in omega arith
unfinished_first (suc (suc (suc q))) a b is e f pre = cc

unfinished_next : NonePrecedes unfinished_put (2 ∷ []) 0
unfinished_next zero a b is e f pre =
    let o : Operation Touch = record { starts = 1; ends = None; maybe = false; what = Puts 1 } in before o o a b e f pre
unfinished_next (suc zero) a b is e f pre = let l : 3 < 1 = before _ _ a b e f pre in omega arith
unfinished_next (suc (suc zero)) a b is e f pre = let l : 5 < 1 = before _ _ a b e f pre in omega arith
unfinished_next (suc (suc (suc q))) a b is e f pre = cc

unfinished_last : NonePrecedes unfinished_put [] 2
unfinished_last q a b is e f pre = omega arith

pub unfinished : IsLawfulOrder cell_after 0 unfinished_put (1 ∷ 0 ∷ 2 ∷ [])
unfinished = record {
  listing = unfinished_stand;
  precedence = (unfinished_first, (unfinished_next, (unfinished_last, tt)));
  steps = (_, 0, refl, refl, (_, 1, refl, refl, (_, 1, refl, refl, tt)));
}

-- the stale get: behind the put nothing is left for it
behind_put : (rest : List ℕ) (t : ℕ) → Some 1 ≡ Some t → times_of 0 rest ≡ 0 → times_of 1 rest ≡ 1 → CanMake cell_after stale_get t rest → ⊥
behind_put [] t e zeros ones steps = omega arith
behind_put (zero ∷ rest) t e zeros ones steps =
    let c : times_of 0 (0 ∷ rest) ≡ 1 + times_of 0 rest = times_cons 0 0 rest in omega arith
behind_put (suc zero ∷ rest) t e zeros ones steps =
    let P : ℕ → Type 0 = λ z. CanMake cell_after stale_get z (1 ∷ rest) in
    let at_one = subst P (sym (same_Some 1 t e)) steps in
    stuck at_one.0 at_one.1 at_one.2 at_one.3
  where
    stuck : (o : Operation Touch) (u : ℕ) → Some (ended 3 4 (Gets 0)) ≡ Some o → cell_after 1 o.what ≡ Some u → ⊥
    stuck o u at step =
        let P : Operation Touch → Type 0 = λ z. cell_after 1 z.what ≡ Some u in
        let none : None ≡ Some u = subst P (sym (same_Some (ended 3 4 (Gets 0)) o at)) step in
        cc
behind_put (suc (suc p) ∷ rest) t e zeros ones steps = let at : None ≡ Some steps.0 = steps.2 in cc

pub stale : (order : List ℕ) → IsLawfulOrder cell_after 0 stale_get order → ⊥
stale [] h = let one : times_of 0 [] ≡ 1 = h.listing 0 (ended 1 2 (Puts 1)) refl in omega arith
stale (zero ∷ rest) h =
    let one : times_of 0 (0 ∷ rest) ≡ 1 = h.listing 0 (ended 1 2 (Puts 1)) refl in
    let two : times_of 1 (0 ∷ rest) ≡ 1 = h.listing 1 (ended 3 4 (Gets 0)) refl in
    let c : times_of 0 (0 ∷ rest) ≡ 1 + times_of 0 rest = times_cons 0 0 rest in
    let d : times_of 1 (0 ∷ rest) ≡ 0 + times_of 1 rest = times_cons 1 0 rest in
    let P : Operation Touch → Type 0 = λ z. cell_after 0 z.what ≡ Some h.steps.1 in
    let step : Some 1 ≡ Some h.steps.1 = subst P (sym (same_Some (ended 1 2 (Puts 1)) h.steps.0 h.steps.2)) h.steps.3 in
    behind_put rest h.steps.1 step (omega arith) (omega arith) h.steps.4
stale (suc zero ∷ rest) h =
    let one : times_of 0 (1 ∷ rest) ≡ 1 = h.listing 0 (ended 1 2 (Puts 1)) refl in
    let c : times_of 0 (1 ∷ rest) ≡ 0 + times_of 0 rest = times_cons 0 1 rest in
    let less : 2 < 3 = omega arith in
    h.precedence.0 0 (ended 1 2 (Puts 1)) (ended 3 4 (Gets 0)) (omega arith) refl refl less
stale (suc (suc p) ∷ rest) h = let at : None ≡ Some h.steps.0 = h.steps.2 in cc
