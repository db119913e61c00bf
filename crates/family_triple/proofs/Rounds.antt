-- A call's slot comes first, another one takes its place, and the slots are turned back.
use Rattle.std.proofs.Common.{◌≡◌, ◌≢◌, ℕ, zero, suc, ◌+◌, ◌*◌, ◌-◌, ◌<◌, ◌≤◌, List, [], ◌∷◌, ◌++◌, length, refl, sym, ap, ◌∙◌, subst}
use Rattle.std.proofs.Common.{arith, length-append, mul-le-mul_right}
use mathlib.Core.Option.{some}
use lib.ListN.{get_elem?}
use Rattle.cell_contract.specs.Running.{held_slots}
use Rattle.family_triple.specs.Tables.{IsRotated}
use Rattle.family_triple.proofs.Looking.{unturned}
use Rattle.family_triple.proofs.Rests.{Replaced}
use Rattle.family_triple.proofs.Turns.{turned_round}

pub few_cells : (n k : ℕ) → n ≤ 16 → k < n * n → k < 256
few_cells n k few l = let m : n * n ≤ 16 * n = mul-le-mul_right n few in omega arith

replaced_at : {A : Type 0} (front back : List A) (x y : A) → Replaced (front ++ x ∷ back) (front ++ y ∷ back) (length front) y
replaced_at front back x y = record {
  here = at front back y;
  others = λ i ne. else_same front back x y i ne;
  long = length-append front (y ∷ back) ∙ sym (length-append front (x ∷ back));
} where
  at : {A : Type 0} (front back : List A) (y : A) → get_elem? (front ++ y ∷ back) (length front) ≡ some y
  at [] back y = refl
  at (z ∷ front) back y = at front back y

  else_same : {A : Type 0} (front back : List A) (x y : A) (i : ℕ) → i ≢ length front →
      get_elem? (front ++ y ∷ back) i ≡ get_elem? (front ++ x ∷ back) i
  else_same [] back x y zero ne = absurd (ne refl)
  else_same [] back x y (suc i) ne = refl
  else_same (z ∷ front) back x y zero ne = refl
  else_same (z ∷ front) back x y (suc i) ne = else_same front back x y i (λ e. ne (ap suc e))

module _ {T : Type 0} where
  pub replaced : (cs cs' front back : List (ℕ × T)) (x y : ℕ × T) (at : ℕ) → cs ≡ front ++ x ∷ back → cs' ≡ front ++ y ∷ back →
      length front ≡ at → Replaced cs cs' at y
  replaced cs cs' front back x y at is is' long =
      subst (λ (z : List (ℕ × T) × List (ℕ × T) × ℕ). Replaced z.0 z.1 z.2 y) (λ i. (sym is i, sym is' i, long i))
      (replaced_at front back x y)

  -- as many as stand behind
  pub behind_long : (cs front back : List (ℕ × T)) (x y : ℕ × T) (at all : ℕ) → cs ≡ front ++ x ∷ back → length front ≡ at →
      length cs ≡ all → length (y ∷ back) ≡ all - at
  behind_long cs front back x y at all is long many =
      let e : length cs ≡ length front + length (x ∷ back) = ap length is ∙ length-append front (x ∷ back) in
      let f : length (x ∷ back) ≡ length back + 1 = omega arith in
      omega arith

  -- the slot that came first, with any record
  pub turned_front : (cs front back : List (ℕ × T)) (a : ℕ) (r x : T) (held : List ℕ) (now : List (ℕ × T)) → cs ≡ front ++ (a, r) ∷ back →
      IsRotated held (held_slots cs) → now ≡ (a, x) ∷ (back ++ front) → IsRotated held (held_slots now)
  turned_front cs front back a r x held now is t e = subst (λ zs. IsRotated held (held_slots zs)) (sym e)
      (turned_round front ((a, r) ∷ back) held (subst (λ zs. IsRotated held (held_slots zs)) is t))

  -- and back
  pub turned_back : (front back : List (ℕ × T)) (y : ℕ × T) (now : List (ℕ × T)) → now ≡ front ++ y ∷ back →
      IsRotated (held_slots (y ∷ (back ++ front))) (held_slots now)
  turned_back front back y now e = subst (λ zs. IsRotated (held_slots (y ∷ (back ++ front))) (held_slots zs)) (sym e)
      (turned_round (y ∷ back) front (held_slots (y ∷ (back ++ front)))
      (unturned (held_slots (y ∷ (back ++ front))) (held_slots ((y ∷ back) ++ front)) refl))
