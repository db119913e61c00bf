-- Bits, and what a write to one of two sides leaves.
use Rattle.std.proofs.Common.{◌≡◌, ◌≢◌, Bool, true, false, not, refl, sym, ◌∙◌, ap, ◌⊎◌, inl, inr}
use Rattle.four_slot_core.specs.declared.state.Sides.{Sides}
use Rattle.four_slot_core.specs.declared.state.Slot.{Slot}
use Rattle.four_slot_core.specs.Events.{side, with_side, record_in, with_record, slot_with}

pub not_same : (b : Bool) → not b ≡ b → ⊥
not_same true h = cc
not_same false h = cc

-- of two bits, what is not the opposite of the first is the first
pub other : (a b : Bool) → not a ≢ b → a ≡ b
other true true h = refl
other true false h = absurd (h refl)
other false true h = absurd (h refl)
other false false h = refl

pub bit_cases : (a b : Bool) → (a ≡ b) ⊎ (a ≢ b)
bit_cases true true = inl refl
bit_cases true false = inr (λ h. cc)
bit_cases false true = inr (λ h. cc)
bit_cases false false = inl refl

pub side_same : {X : Type 0} (s : Sides X) (b : Bool) (x : X) → side (with_side s b x) b ≡ x
side_same s true x = refl
side_same s false x = refl

pub side_other : {X : Type 0} (s : Sides X) (a b : Bool) (x : X) → a ≢ b → side (with_side s b x) a ≡ side s a
side_other s true true x h = absurd (h refl)
side_other s true false x h = refl
side_other s false true x h = refl
side_other s false false x h = absurd (h refl)

pub same_slot_of : (p : Slot) (a b : Bool) → p.pair ≡ a → p.index ≡ b → p ≡ slot_with a b
same_slot_of p a b e f = ap (λ x. slot_with x p.index) e ∙ ap (slot_with a) f

pub record_same : {R : Type 0} (s : Sides (Sides R)) (p : Slot) (x : R) → record_in (with_record s p x) p ≡ x
record_same s p x =
    ap (λ z. side z p.index) (side_same s p.pair (with_side (side s p.pair) p.index x)) ∙ side_same (side s p.pair) p.index x

pub record_other : {R : Type 0} (s : Sides (Sides R)) (p q : Slot) (x : R) → q ≢ p → record_in (with_record s p x) q ≡ record_in s q
record_other s p q x ne = elim (bit_cases q.pair p.pair) [
  | inr d ↦ ap (λ z. side z q.index) (side_other s q.pair p.pair _ d)
  | inl e ↦
      let ni : q.index ≢ p.index = λ i. ne (same_slot_of q p.pair p.index e i) in
      ap (λ z. side (side (with_side s p.pair (with_side (side s p.pair) p.index x)) z) q.index) e
      ∙ ap (λ z. side z q.index) (side_same s p.pair (with_side (side s p.pair) p.index x))
      ∙ side_other (side s p.pair) q.index p.index x ni
      ∙ ap (λ z. side (side s z) q.index) (sym e)
]
