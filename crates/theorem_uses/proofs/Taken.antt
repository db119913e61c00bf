-- A status tells which case it was.
use Rattle.std.proofs.Common.{◌≡◌, ◌≢◌, ℕ, refl, sym, ◌∙◌, inl, inr, arith}
use Rattle.c_registers.specs.FourSlotCalls as four_slot
use Rattle.c_registers.specs.Handles.{Holding, IsHold, IsLook, IsRead}
use Rattle.c_registers.specs.Handles as handles
use Rattle.c_registers.specs.Numbers.{numbered}
use Rattle.c_registers.specs.TripleCalls.{at_hand, HasRead}
use Rattle.c_registers.specs.declared.numbered.Numbered.{Numbered}
use Rattle.theorem_uses.proofs.Lacking.{lacks_ended, lacks_other, lacks_cut_off, lacks_by_three}
use Rattle.theorem_uses.specs.Reads.{BacksShow, FourSlotReadsShow, HoldStatusesShow, LookStatusesShow, ReadStatusesShow, TripleReadsShow}

pub four_slot_reads : {W : Type 0} → FourSlotReadsShow W
four_slot_reads g h a read = (
  read.same,
  read.answers,
  read.told,
  read.accesses,
  read.quiet,
  read.moved,
  read.running,
  read.timed,
  read.written,
)

pub triple_reads : {W : Type 0} → TripleReadsShow W
triple_reads g h a read = (
  read.same,
  read.at_hand,
  read.answers,
  read.told,
  read.accesses,
  read.running,
  read.timed,
  read.written,
)

module _ {D G W : Type 0} (code : ℕ) (reads : G → D) (h k : Holding D) (has_read : G → G → Numbered W → Type 0) (item item' : W)
    (number number' : ℕ) where
  abbrev Was : ℕ → Type 0
  Was n = IsRead code reads has_read h k item item' number number' n

  read_done : (n : ℕ) → n ≡ 0 → Was n → (p : G) × (q : G) × (h.live ≡ code) × (h.side ≡ reads p) × (k.live ≡ code) × (k.side ≡ reads q)
      × has_read p q (numbered number' item')
  read_done n e (handles.done p q had has read) = (p, q, had.0, had.1, has.0, has.1, read)
  read_done n e (handles.refused r same counted) = absurd (let least = lacks_by_three n r.1 in omega (arith, e, least))

  read_ended : (n : ℕ) → n ≡ 3 → Was n → (h.live ≡ 0) × (k ≡ h) × (item' ≡ item) × (number' ≡ number)
  read_ended n e (handles.done p q had has read) = absurd (omega (arith, e))
  read_ended n e (handles.refused r same counted) = (lacks_ended n e r.1, r.2, same, counted)

  read_other : (n : ℕ) → n ≡ 5 → Was n → (h.live ≢ 0) × (h.live ≢ code) × (k ≡ h) × (item' ≡ item) × (number' ≡ number)
  read_other n e (handles.done p q had has read) = absurd (omega (arith, e))
  read_other n e (handles.refused r same counted) = ((lacks_other n e r.1).0, r.0, r.2, same, counted)

  read_cut_off : (n : ℕ) → n ≡ 12 → Was n → (h.live ≡ 255) × (k ≡ h) × (item' ≡ item) × (number' ≡ number)
  read_cut_off n e (handles.done p q had has read) = absurd (omega (arith, e))
  read_cut_off n e (handles.refused r same counted) = (lacks_cut_off n e r.1, r.2, same, counted)

module _ {D G W : Type 0} (code : ℕ) (reads : G → D) (h k : Holding D) (has_read : G → G → Numbered W → Type 0) (number number' : ℕ) where
  abbrev Saw : ℕ → Type 0
  Saw n = IsLook code reads has_read h k number number' n

  look_done : (n : ℕ) → n ≡ 0 → Saw n → (p : G) × (q : G) × (w : W) × (h.live ≡ code) × (h.side ≡ reads p) × (k.live ≡ code)
      × (k.side ≡ reads q) × has_read p q (numbered number' w)
  look_done n e (handles.done p q w had has read) = (p, q, w, had.0, had.1, has.0, has.1, read)
  look_done n e (handles.refused r counted) = absurd (let least = lacks_by_three n r.1 in omega (arith, e, least))

  look_ended : (n : ℕ) → n ≡ 3 → Saw n → (h.live ≡ 0) × (k ≡ h) × (number' ≡ number)
  look_ended n e (handles.done p q w had has read) = absurd (omega (arith, e))
  look_ended n e (handles.refused r counted) = (lacks_ended n e r.1, r.2, counted)

  look_other : (n : ℕ) → n ≡ 5 → Saw n → (h.live ≢ 0) × (h.live ≢ code) × (k ≡ h) × (number' ≡ number)
  look_other n e (handles.done p q w had has read) = absurd (omega (arith, e))
  look_other n e (handles.refused r counted) = ((lacks_other n e r.1).0, r.0, r.2, counted)

  look_cut_off : (n : ℕ) → n ≡ 12 → Saw n → (h.live ≡ 255) × (k ≡ h) × (number' ≡ number)
  look_cut_off n e (handles.done p q w had has read) = absurd (omega (arith, e))
  look_cut_off n e (handles.refused r counted) = (lacks_cut_off n e r.1, r.2, counted)

module _ {D G W : Type 0} (code : ℕ) (reads : G → D) (h : Holding D) (words : G → W) (seen seen' : W) where
  abbrev Held : ℕ → Type 0
  Held n = IsHold code reads words h seen seen' n

  hold_done : (n : ℕ) → n ≡ 0 → Held n → (g : G) × (h.live ≡ code) × (h.side ≡ reads g) × (seen' ≡ words g)
  hold_done n e (handles.done g had leads) = (g, had.0, had.1, leads)
  hold_done n e (handles.refused not lacking same) = absurd (let least = lacks_by_three n lacking in omega (arith, e, least))

  hold_ended : (n : ℕ) → n ≡ 3 → Held n → (h.live ≡ 0) × (seen' ≡ seen)
  hold_ended n e (handles.done g had leads) = absurd (omega (arith, e))
  hold_ended n e (handles.refused not lacking same) = (lacks_ended n e lacking, same)

  hold_other : (n : ℕ) → n ≡ 5 → Held n → (h.live ≢ 0) × (h.live ≢ code) × (seen' ≡ seen)
  hold_other n e (handles.done g had leads) = absurd (omega (arith, e))
  hold_other n e (handles.refused not lacking same) = ((lacks_other n e lacking).0, not, same)

  hold_cut_off : (n : ℕ) → n ≡ 12 → Held n → (h.live ≡ 255) × (seen' ≡ seen)
  hold_cut_off n e (handles.done g had leads) = absurd (omega (arith, e))
  hold_cut_off n e (handles.refused not lacking same) = (lacks_cut_off n e lacking, same)

module _ {D W : Type 0} where
  pub read_statuses : ReadStatusesShow D W
  read_statuses code reads h k item item' number number' = (
    read_done code reads h k four_slot.HasRead item item' number number' 0 refl,
    read_ended code reads h k four_slot.HasRead item item' number number' 3 refl,
    read_other code reads h k four_slot.HasRead item item' number number' 5 refl,
    read_cut_off code reads h k four_slot.HasRead item item' number number' 12 refl,
  )

  pub look_statuses : LookStatusesShow D W
  look_statuses code reads h k number number' = (
    look_done code reads h k HasRead number number' 0 refl,
    look_ended code reads h k HasRead number number' 3 refl,
    look_other code reads h k HasRead number number' 5 refl,
    look_cut_off code reads h k HasRead number number' 12 refl,
  )

  pub hold_statuses : HoldStatusesShow D W
  hold_statuses code reads words h seen seen' = (
    hold_done code reads h (λ g. words (at_hand g).words) seen seen' 0 refl,
    hold_ended code reads h (λ g. words (at_hand g).words) seen seen' 3 refl,
    hold_other code reads h (λ g. words (at_hand g).words) seen seen' 5 refl,
    hold_cut_off code reads h (λ g. words (at_hand g).words) seen seen' 12 refl,
  )

  pub backs : BacksShow D W
  backs code reads h k (handles.reader f g had has stays) = inl (
    f,
    g,
    had.0,
    had.1,
    has.0 ∙ sym had.0,
    has.1,
    stays.same,
    stays.pass.table,
    stays.pass.me,
    stays.pass.slot,
    stays.pass.spare,
  )
  backs code reads h k (handles.refused not same) = inr (same, not)
