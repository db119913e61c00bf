-- What leaves every state of a lock as it is, and what doesn't.
use Rattle.std.proofs.Common.{◌≡◌, ℕ, Bool, true, cond, nat_eq, Option, None, Some, refl, ap, subst, arith}
use Rattle.std.proofs.lemmas.Bool.Decides.{nat_tests}
use Rattle.test_objects.specs.declared.lock.Lock.{Lock}
use Rattle.test_objects.specs.declared.lock.Turn.{Turn}
use Rattle.test_objects.specs.declared.lock.Turn.TheVariants.{Took, LetGo}
use Rattle.test_objects.specs.Locks.{lock_after}

-- what changes no state
abbrev pub Stays : Turn → Type 0
Stays what = (s t : Lock) → lock_after s what ≡ Some t → t ≡ s

-- taking a lock that is free shows, and so does letting it go
pub taking_shows : (what : Turn) (who : ℕ) → what ≡ Took who → Stays what → ⊥
taking_shows what who is stays =
    let h : Stays (Took who) = subst Stays is stays in
    let e = h (record { holder = None }) (record { holder = Some who }) refl in
    let f : Some who ≡ None = ap (λ (s : Lock). s.holder) e in
    cc

pub letting_shows : (what : Turn) (who : ℕ) → what ≡ LetGo who → Stays what → ⊥
letting_shows what who is stays =
    let h : Stays (LetGo who) = subst Stays is stays in
    let same : nat_eq who who ≡ true = grind (arith, nat_tests) in
    let free : Option Lock = Some (record { holder = None }) in
    let e = h (record { holder = Some who }) (record { holder = None }) (ap (λ b. cond b free None) same) in
    let f : None ≡ Some who = ap (λ (s : Lock). s.holder) e in
    cc
