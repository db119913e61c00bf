-- The instance, place by place.
use Rattle.std.proofs.Common.{◌≡◌, ℕ, ◌<◌, ◌≤◌, false, List, [], ◌∷◌, slice_get, Option, None, Some, IsSome, zero, suc, refl, sym, ◌∙◌}
use Rattle.std.proofs.Common.{ap, subst, arith}
use Rattle.std.proofs.lemmas.Option.{same_Some}
use Rattle.history_core.specs.declared.history.Op.{Op}
use Rattle.history_core.specs.declared.history.Verdict.TheVariants.{Lawful}
use Rattle.history_core.specs.Orders.{IsVerdict, times_of}
use Rattle.object_core.specs.declared.operation.Operation.{Operation}
use Rattle.object_core.specs.Logs.{IsLawfulOrder, is_due, MayStand, NonePrecedes, Precedes}
use Rattle.object_registers.proofs.Turns.{AreTwo, refused_two}
use Rattle.object_registers.specs.declared.limited.Access.{Access}
use Rattle.object_registers.specs.declared.limited.Access.TheVariants.{Writes, Reads, IsRefused}
use Rattle.object_registers.specs.Registers.{IsWriteFor, limited_after}
use Rattle.objects_agree.specs.Agreement.{accesses, HaveRecords}
use Rattle.objects_agree.specs.Instances.{refused_behind}
use Rattle.objects_agree.proofs.Whole.{back, term}

-- the log
abbrev pub write_op : Operation Access
write_op = record { starts = 1; ends = Some 2; maybe = false; what = Writes 1 }

abbrev pub refused_op : Operation Access
refused_op = record { starts = 3; ends = Some 4; maybe = false; what = IsRefused 1 }

abbrev pub read_op : Operation Access
read_op = record { starts = 1; ends = None; maybe = false; what = Reads 0 }

abbrev pub log : List (Operation Access)
log = write_op ∷ refused_op ∷ read_op ∷ []

stand : (o a : Operation Access) (times : ℕ) → Some o ≡ Some a → MayStand (is_due o) times → MayStand (is_due a) times
stand o a times e h = let P : Operation Access → Type 0 = λ z. MayStand (is_due z) times in subst P (same_Some o a e) h

before : (o u a b : Operation Access) → Some o ≡ Some a → Some u ≡ Some b → Precedes a b → Precedes o u
before o u a b e f h =
    let P : Operation Access → Type 0 = λ z. Precedes z b in
    let Q : Operation Access → Type 0 = λ z. Precedes o z in
    subst Q (sym (same_Some u b f)) (subst P (sym (same_Some o a e)) h)

stands : (p : ℕ) (o : Operation Access) → slice_get log p ≡ Some o → MayStand (is_due o) (times_of p (2 ∷ 0 ∷ 1 ∷ []))
stands zero o e = stand write_op o 1 e refl
stands (suc zero) o e = stand refused_op o 1 e refl
stands (suc (suc zero)) o e = stand read_op o 1 e (omega arith)
stands (suc (suc (suc p))) o e = cc

first : NonePrecedes log (0 ∷ 1 ∷ []) 2
first zero a b is e f pre = let l : 2 < 1 = before write_op read_op a b e f pre in omega arith
first (suc zero) a b is e f pre = let l : 4 < 1 = before refused_op read_op a b e f pre in omega arith
first (suc (suc zero)) a b is e f pre = before read_op read_op a b e f pre
first (suc (suc (suc q))) a b is e f pre = cc

next : NonePrecedes log (1 ∷ []) 0
next zero a b is e f pre = let l : 2 < 1 = before write_op write_op a b e f pre in omega arith
next (suc zero) a b is e f pre = let l : 4 < 1 = before refused_op write_op a b e f pre in omega arith
next (suc (suc zero)) a b is e f pre = before read_op write_op a b e f pre
next (suc (suc (suc q))) a b is e f pre = cc

last : NonePrecedes log [] 1
last q a b is e f pre = omega arith

pub lawful : IsLawfulOrder limited_after (record { held = 0; due = 1 }) (accesses 0 refused_behind) (2 ∷ 0 ∷ 1 ∷ [])
lawful = record {
  listing = stands;
  precedence = (first, (next, (last, tt)));
  steps = (
    read_op,
    record { held = 0; due = 1 },
    refl,
    refl,
    (
      write_op,
      record { held = 1; due = 0 },
      refl,
      refl,
      (refused_op, record { held = 1; due = 0 }, refl, refl, tt),
    ),
  );
}

-- what ended has a record
recorded : (o a : Op ℕ) → Some o ≡ Some a → IsSome o.item → IsSome a.item
recorded o a e h = let P : Op ℕ → Type 0 = λ z. IsSome z.item in subst P (same_Some o a e) h

never_ended : (o a : Op ℕ) → Some o ≡ Some a → o.ends ≡ None → IsSome a.ends → ⊥
never_ended o a e none h = let P : Op ℕ → Type 0 = λ z. IsSome z.ends in unended o.ends none (subst P (sym (same_Some o a e)) h)
  where
    unended : (ends : Option ℕ) → ends ≡ None → IsSome ends → ⊥
    unended None f g = cc
    unended (Some end) f g = cc

records : HaveRecords refused_behind
records zero o e ended = recorded _ o e refl
records (suc zero) o e ended = recorded _ o e refl
records (suc (suc zero)) o e ended = absurd (never_ended _ o e refl ended)
records (suc (suc (suc p))) o e ended = cc

pub lawful_history : IsVerdict (λ x y. x ≡ y) 0 (term 1 ∷ []) refused_behind (0 ∷ 1 ∷ []) Lawful
lawful_history = back 0 1 refused_behind (2 ∷ 0 ∷ 1 ∷ []) records lawful

-- under two writes: there is one only
writes_first : (q : ℕ) (o a : Operation Access) (value : ℕ) → slice_get log q ≡ Some a → a.what ≡ Writes value → q ≡ 0
writes_first zero o a value e w = refl
writes_first (suc zero) o a value e w =
    let is : IsRefused 1 ≡ Writes value = ap (λ (z : Operation Access). z.what) (same_Some refused_op a e) ∙ w in cc
writes_first (suc (suc zero)) o a value e w =
    let is : Reads 0 ≡ Writes value = ap (λ (z : Operation Access). z.what) (same_Some read_op a e) ∙ w in cc
writes_first (suc (suc (suc q))) o a value e w = cc

pub unlawful : (order : List ℕ) → IsLawfulOrder limited_after (record { held = 0; due = 2 }) (accesses 0 refused_behind) order → ⊥
unlawful order h =
    let due : 2 ≤ 2 = omega arith in
    let two : AreTwo refused_op log = refused_two (record { held = 0; due = 2 }) log 1 1 refused_op (order, h) refl refl refl due in
    let one : IsWriteFor refused_op log two.0 = two.3 in
    let other : IsWriteFor refused_op log two.1 = two.4 in
    two.2 (writes_first two.0 refused_op one.0 one.1 one.2 one.4 ∙ sym (writes_first two.1 refused_op other.0 other.1 other.2 other.4))
