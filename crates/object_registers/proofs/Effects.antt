-- What leaves every state as it is, and what doesn't.
use Rattle.std.proofs.Common.{◌≡◌, ℕ, ◌+◌, ◌<◌, Bool, true, cond, nat_eq, Option, None, Some, refl, ap, subst, arith}
use Rattle.std.proofs.lemmas.Bool.Decides.{nat_tests}
use Rattle.object_registers.specs.declared.exchanging.Exchange.{Exchange}
use Rattle.object_registers.specs.declared.exchanging.Exchange.TheVariants.{Sets, Swaps, Tries}
use Rattle.object_registers.specs.declared.exchanging.Exchanging.{Exchanging}
use Rattle.object_registers.specs.declared.limited.Access.{Access}
use Rattle.object_registers.specs.declared.limited.Access.TheVariants.{Writes}
use Rattle.object_registers.specs.declared.limited.Limited.{Limited}
use Rattle.object_registers.specs.declared.limited_exchanging.LimitedExchanging.{LimitedExchanging}
use Rattle.object_registers.specs.Registers.{exchanging_after, limited_after, limited_exchanging_after, written}

same : (n : ℕ) → nat_eq n n ≡ true
same n = grind (arith, nat_tests)

-- what changes no state
abbrev pub LimitedStays : Access → Type 0
LimitedStays what = (s t : Limited) → limited_after s what ≡ Some t → t ≡ s

abbrev pub ExchangingStays : Exchange → Type 0
ExchangingStays what = (s t : Exchanging) → exchanging_after s what ≡ Some t → t ≡ s

abbrev pub LimitedExchangingStays : Exchange → Type 0
LimitedExchangingStays what = (s t : LimitedExchanging) → limited_exchanging_after s what ≡ Some t → t ≡ s

-- a write shows where there was another record
pub write_shows : (what : Access) (value : ℕ) → what ≡ Writes value → LimitedStays what → ⊥
write_shows what value is stays =
    let h : LimitedStays (Writes value) = subst LimitedStays is stays in
    let e = h (record { held = value + 1; due = 0 }) (record { held = value; due = 0 }) refl in
    let f : value ≡ value + 1 = ap (λ (s : Limited). s.held) e in
    omega arith

pub set_shows : (what : Exchange) (value : ℕ) → what ≡ Sets value → ExchangingStays what → ⊥
set_shows what value is stays =
    let h : ExchangingStays (Sets value) = subst ExchangingStays is stays in
    let e = h (record { held = value + 1 }) (record { held = value }) refl in
    let f : value ≡ value + 1 = ap (λ (s : Exchanging). s.held) e in
    omega arith

-- a compare-and-set doesn't, where it has one record twice
pub swap_shows : (what : Exchange) (from to : ℕ) → what ≡ Swaps from to → ExchangingStays what → nat_eq from to ≡ true
swap_shows what from to is stays =
    let h : ExchangingStays (Swaps from to) = subst ExchangingStays is stays in
    let done : Option Exchanging = Some (record { held = to }) in
    let e = h (record { held = from }) (record { held = to }) (ap (λ b. cond b done None) (same from)) in
    let f : to ≡ from = ap (λ (s : Exchanging). s.held) e in
    grind (arith, nat_tests)

pub try_shows : (what : Exchange) (from to : ℕ) → what ≡ Tries from to → ExchangingStays what → nat_eq from to ≡ true
try_shows what from to is stays =
    let h : ExchangingStays (Tries from to) = subst ExchangingStays is stays in
    let old : Exchanging = record { held = from } in
    let new : Exchanging = record { held = to } in
    let e = h old new (ap (λ b. Some (cond b new old)) (same from)) in
    let f : to ≡ from = ap (λ (s : Exchanging). s.held) e in
    grind (arith, nat_tests)

-- with a limit each write shows: one fewer is due
abbrev one_due : ℕ → LimitedExchanging
one_due value = record { held = value; due = 1 }

apart : (m n : ℕ) → m < n → m ≡ n → ⊥
apart m n l e = omega (arith, l, e)

fewer_due : (from to : ℕ) → written (one_due from) to ≡ one_due from → ⊥
fewer_due from to e = apart 0 1 (omega arith) (ap (λ (s : LimitedExchanging). s.due) e)

pub limited_set_shows : (what : Exchange) (value : ℕ) → what ≡ Sets value → LimitedExchangingStays what → ⊥
limited_set_shows what value is stays =
    let h : LimitedExchangingStays (Sets value) = subst LimitedExchangingStays is stays in
    fewer_due value value (h (one_due value) (written (one_due value) value) refl)

pub limited_swap_shows : (what : Exchange) (from to : ℕ) → what ≡ Swaps from to → LimitedExchangingStays what → ⊥
limited_swap_shows what from to is stays =
    let h : LimitedExchangingStays (Swaps from to) = subst LimitedExchangingStays is stays in
    let new = written (one_due from) to in
    fewer_due from to (h (one_due from) new (ap (λ b. cond b (Some new) None) (same from)))

pub limited_try_shows : (what : Exchange) (from to : ℕ) → what ≡ Tries from to → LimitedExchangingStays what → ⊥
limited_try_shows what from to is stays =
    let h : LimitedExchangingStays (Tries from to) = subst LimitedExchangingStays is stays in
    let old = one_due from in
    let new = written old to in
    fewer_due from to (h old new (ap (λ b. Some (cond b new old)) (same from)))
