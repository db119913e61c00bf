-- The four slots and their numbers: distinct slots have distinct numbers, and the number of a slot's last write changes at a write
-- into it alone.
use Rattle.std.proofs.Common.{◌≡◌, ◌≢◌, ◌⊎◌, ℕ, ◌+◌, ◌<◌, ◌≤◌, Bool, true, false, not, ◌&&◌, if◌then◌else◌, List, [], ◌∷◌, ◌++◌, length}
use Rattle.std.proofs.Common.{sym, refl, ap, ◌∙◌, ⊎_elim, inl, inr, arith}
use Rattle.four_slot_core.specs.declared.state.Slot.{Slot}
use Rattle.four_slot_core.specs.declared.state.State.{State as Core}
use Rattle.four_slot_core.specs.Events.{side, same_bit, same_slot, bit_number, slot_number}
use Rattle.four_slot_core.proofs.events.TwoSides.{not_same, bit_cases, same_slot_of}
use Rattle.cell_four_slot.specs.Rule.{number_from, number_in, named_slot}

pub bit_low : (b : Bool) → bit_number b ≤ 1
bit_low true = omega arith
bit_low false = omega arith

pub bit_same : (a b : Bool) → bit_number a ≡ bit_number b → a ≡ b
bit_same true true e = refl
bit_same true false e = absurd (omega arith)
bit_same false true e = absurd (omega arith)
bit_same false false e = refl

pub slot_low : (k : Slot) → slot_number k < 4
slot_low k = let a = bit_low k.pair in let b = bit_low k.index in omega arith

pub number_of_slot : (j k : Slot) → slot_number j ≡ slot_number k → j ≡ k
number_of_slot j k e =
    let a = bit_low j.pair in let b = bit_low j.index in let c = bit_low k.pair in let d = bit_low k.index in
    let p : bit_number j.pair ≡ bit_number k.pair = omega arith in
    let i : bit_number j.index ≡ bit_number k.index = omega arith in
    same_slot_of j k.pair k.index (bit_same j.pair k.pair p) (bit_same j.index k.index i)

pub same_or_not : (j k : Slot) → (j ≡ k) ⊎ (j ≢ k)
same_or_not j k = ⊎_elim
    (λ (p : j.pair ≡ k.pair). ⊎_elim
    (λ (i : j.index ≡ k.index). inl (same_slot_of j k.pair k.index p i))
    (λ (i : j.index ≢ k.index). inr (λ e. i (ap (λ (z : Slot). z.index) e)))
    (bit_cases j.index k.index))
    (λ (p : j.pair ≢ k.pair). inr (λ e. p (ap (λ (z : Slot). z.pair) e)))
    (bit_cases j.pair k.pair)

-- the slot that a pair's bit names is none whose index is the opposite of its pair's bit
pub not_named : {T : Type 0} (c : Core T) (k : Slot) (q : Bool) → k.index ≡ not (side c.slot k.pair) → named_slot c q ≢ k
not_named c k q opposite e =
    let p : q ≡ k.pair = ap (λ (z : Slot). z.pair) e in
    let i : side c.slot q ≡ k.index = ap (λ (z : Slot). z.index) e in
    not_same (side c.slot k.pair) (sym opposite ∙ (sym i ∙ ap (side c.slot) p))

same_bit_self : (b : Bool) → same_bit b b ≡ true
same_bit_self true = refl
same_bit_self false = refl

both_true : (a b : Bool) → a ≡ true → b ≡ true → (a && b) ≡ true
both_true a b e f = ap (λ z. z && b) e ∙ f

same_self : (k : Slot) → same_slot k k ≡ true
same_self k = both_true (same_bit k.pair k.pair) (same_bit k.index k.index) (same_bit_self k.pair) (same_bit_self k.index)

same_bit_is : (a b : Bool) → same_bit a b ≡ true → a ≡ b
same_bit_is true true e = refl
same_bit_is true false e = sym e
same_bit_is false true e = e
same_bit_is false false e = refl

parts_true : (a b : Bool) → (a && b) ≡ true → (a ≡ true) × (b ≡ true)
parts_true true b e = (refl, e)
parts_true false b e = absurd (cc)

apart_false : (t : Bool) (j k : Slot) → (t ≡ true → j ≡ k) → j ≢ k → t ≡ false
apart_false true j k is ne = absurd (ne (is refl))
apart_false false j k is ne = refl

same_apart : (j k : Slot) → j ≢ k → same_slot j k ≡ false
same_apart j k ne = apart_false (same_slot j k) j k
    (λ e.
    let t = parts_true (same_bit j.pair k.pair) (same_bit j.index k.index) e in
    same_slot_of j k.pair k.index (same_bit_is j.pair k.pair t.0) (same_bit_is j.index k.index t.1)) ne

number_snoc : (best n : ℕ) (js : List Slot) (j k : Slot) →
    number_from best n (js ++ j ∷ []) k ≡ (if same_slot k j then n + length js + 1 else number_from best n js k)
number_snoc best n [] j k = let e : n + 1 ≡ n + 0 + 1 = omega arith in ap (λ z. if same_slot k j then z else best) e
number_snoc best n (i ∷ js) j k =
    let e : n + 1 + length js + 1 ≡ n + length (i ∷ js) + 1 = omega arith in
    let rest : ℕ = number_from (if same_slot k i then n + 1 else best) (n + 1) js k in
    number_snoc (if same_slot k i then n + 1 else best) (n + 1) js j k ∙ ap (λ z. if same_slot k j then z else rest) e

low_choice : (t : Bool) (best n : ℕ) → best ≤ n → (if t then n + 1 else best) ≤ n + 1
low_choice true best n l = omega arith
low_choice false best n l = omega arith

number_low : (best n : ℕ) (js : List Slot) (k : Slot) → best ≤ n → number_from best n js k ≤ n + length js
number_low best n [] k l = omega arith
number_low best n (i ∷ js) k l =
    let h = number_low (if same_slot k i then n + 1 else best) (n + 1) js k (low_choice (same_slot k i) best n l) in omega arith

-- a write into the slot is its last one, and has the number of the whole list
pub number_here : (js : List Slot) (k : Slot) → number_in (js ++ k ∷ []) k ≡ length js + 1
number_here js k =
    let e : 0 + length js + 1 ≡ length js + 1 = omega arith in
    number_snoc 0 0 js k k ∙ (ap (λ (t : Bool). if t then 0 + length js + 1 else number_in js k) (same_self k) ∙ e)

-- a write into another slot leaves the number
pub number_else : (js : List Slot) (j k : Slot) → k ≢ j → number_in (js ++ j ∷ []) k ≡ number_in js k
number_else js j k ne = number_snoc 0 0 js j k ∙ ap (λ (t : Bool). if t then 0 + length js + 1 else number_in js k) (same_apart k j ne)

pub number_bound : (js : List Slot) (k : Slot) → number_in js k ≤ length js
number_bound js k = let h = number_low 0 0 js k (omega arith) in omega arith
