-- Records with stamps: their order, and the greatest of several (this project's own).
use Rattle.std.specs.Prelude.{◌≡◌, ◌⊎◌, List, Option, Some, None}
use Rattle.std.proofs.Common.{refl, ◌∙◌, inl, inr, arith}
use Rattle.matrix_core.specs.declared.stamp.Stamp.{Stamp}
use Rattle.matrix_core.specs.declared.stamp.Stamped.{Stamped}
use Rattle.matrix_core.specs.Stamps.{greater_by, greatest_by, IsBelow}
use Rattle.board_live.specs.declared.record.Posted.{Posted}

-- the record as a played board has it
abbrev pub stamped : {V : Type 0} → Posted V → Stamped V
stamped p = record { stamp = p.stamp; item = p.item }

-- the second has a greater stamp, or is the same record
abbrev pub Rises : {V : Type 0} → Posted V → Posted V → Type 0
Rises a b = IsBelow a.stamp b.stamp ⊎ ((a.stamp ≡ b.stamp) × (a.item ≡ b.item))

-- the greater of two by stamp, the first where the stamps are equal
abbrev pub greater : {V : Type 0} → Posted V → Posted V → Posted V
greater {V} = greater_by (λ (p : Posted V). p.stamp)

-- the greatest of a record and of others, the first of equal stamps
abbrev pub greatest_posted : {V : Type 0} → Posted V → List (Posted V) → Posted V
greatest_posted {V} = greatest_by (λ (p : Posted V). p.stamp)

-- the item under this stamp, or the record where there is none
abbrev pub or_item : {V : Type 0} → Posted V → Option Stamp → V → Posted V
or_item seen None item = seen
or_item seen (Some s) item = record { stamp = s; item = item }

below_on : (a b c : Stamp) → IsBelow a b → IsBelow b c → IsBelow a c
below_on a b c p q = grind arith

pub rises_itself : {V : Type 0} (a : Posted V) → Rises a a
rises_itself a = inr (refl, refl)

pub rises_on : {V : Type 0} (a b c : Posted V) → Rises a b → Rises b c → Rises a c
rises_on a b c (inl p) (inl q) = inl (below_on a.stamp b.stamp c.stamp p q)
rises_on a b c (inl p) (inr e) = inl (rw (← e.0) p)
rises_on a b c (inr e) (inl q) = inl (rw e.0 q)
rises_on a b c (inr e) (inr f) = inr (e.0 ∙ f.0, e.1 ∙ f.1)
