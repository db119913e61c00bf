-- A status tells which case it was.
use Rattle.std.proofs.Common.{◌≡◌, ◌≢◌, ◌⊎◌, ℕ, refl, sym, ◌∙◌, ap, arith}
use Rattle.cell_four_slot.specs.Words as four
use Rattle.cell_triple.specs.Words as triple
use Rattle.c_registers.specs.FourSlotCalls as four_slot
use Rattle.c_registers.specs.Handles.{Holding, IsEnd, IsMake}
use Rattle.c_registers.specs.Handles as handles
use Rattle.theorem_uses.proofs.Lacking.{lacks_ended, lacks_other, lacks_cut_off, lacks_by_three}
use Rattle.theorem_uses.specs.Makes.{EndStatusesShow, FourSlotMakesShow, MakeStatusesShow, TripleMakesShow}

pub four_slot_makes : {W : Type 0} → FourSlotMakesShow W
four_slot_makes p g w made = (
  made.one,
  ap four.opening_of (sym made.one) ∙ made.opening,
  made.unwritten,
  made.unread,
  made.untold,
  made.timeless.0,
  made.timeless.1,
  made.unknown.0,
  made.unknown.1,
)

pub triple_makes : {W : Type 0} → TripleMakesShow W
triple_makes p g w made = (
  made.one,
  ap triple.opening_of (sym made.one) ∙ made.opening,
  made.unwritten,
  made.unread,
  made.untold,
  made.timeless.0,
  made.timeless.1,
  made.unknown.0,
  made.unknown.1,
)

module _ {D E P G W : Type 0} (codes : ℕ × ℕ) (writes : P → D) (reads : G → E) (is_made : P → G → W → Type 0) (w w' : Holding D)
    (r r' : Holding E) (first : W) where
  make_done : (n : ℕ) → n ≡ 0 → IsMake codes writes reads is_made w r w' r' first n → (p : P) × (g : G) × (w.live ≡ 0) × (r.live ≡ 0)
      × (w'.live ≡ codes.0) × (w'.side ≡ writes p) × (r'.live ≡ codes.1) × (r'.side ≡ reads g) × is_made p g first
  make_done n e (handles.done p g gone none put got made) = (p, g, gone, none, put.0, put.1, got.0, got.1, made)
  make_done n e (handles.no_memory gone none same still) = absurd (omega (arith, e))
  make_done n e (handles.in_use live same still) = absurd (omega (arith, e))

  make_refused : (n : ℕ) → n ≡ 1 → IsMake codes writes reads is_made w r w' r' first n → (w.live ≡ 0) × (r.live ≡ 0) × (w' ≡ w) × (r' ≡ r)
  make_refused n e (handles.done p g gone none put got made) = absurd (omega (arith, e))
  make_refused n e (handles.no_memory gone none same still) = (gone, none, same, still)
  make_refused n e (handles.in_use live same still) = absurd (omega (arith, e))

  make_in_use : (n : ℕ) → n ≡ 2 → IsMake codes writes reads is_made w r w' r' first n → ((w.live ≢ 0) ⊎ (r.live ≢ 0)) × (w' ≡ w) × (r' ≡ r)
  make_in_use n e (handles.done p g gone none put got made) = absurd (omega (arith, e))
  make_in_use n e (handles.no_memory gone none same still) = absurd (omega (arith, e))
  make_in_use n e (handles.in_use live same still) = (live, same, still)

module _ {D : Type 0} (code : ℕ) (h k : Holding D) where
  end_done : (n : ℕ) → n ≡ 0 → IsEnd code h k n → (h.live ≡ code) × (k.live ≡ 0)
  end_done n e (handles.done had gone) = (had, gone)
  end_done n e (handles.refused r) = absurd (let least = lacks_by_three n r.1 in omega (arith, e, least))

  end_ended : (n : ℕ) → n ≡ 3 → IsEnd code h k n → (h.live ≡ 0) × (k ≡ h)
  end_ended n e (handles.done had gone) = absurd (omega (arith, e))
  end_ended n e (handles.refused r) = (lacks_ended n e r.1, r.2)

  end_other : (n : ℕ) → n ≡ 5 → IsEnd code h k n → (h.live ≢ 0) × (h.live ≢ code) × (k ≡ h)
  end_other n e (handles.done had gone) = absurd (omega (arith, e))
  end_other n e (handles.refused r) = ((lacks_other n e r.1).0, r.0, r.2)

  end_cut_off : (n : ℕ) → n ≡ 12 → IsEnd code h k n → (h.live ≡ 255) × (k ≡ h)
  end_cut_off n e (handles.done had gone) = absurd (omega (arith, e))
  end_cut_off n e (handles.refused r) = (lacks_cut_off n e r.1, r.2)

module _ {D E W : Type 0} where
  pub make_statuses : MakeStatusesShow D E W
  make_statuses c d writes reads w w' r r' first = (
    make_done (c, d) writes reads four_slot.IsMade w w' r r' first 0 refl,
    make_refused (c, d) writes reads four_slot.IsMade w w' r r' first 1 refl,
    make_in_use (c, d) writes reads four_slot.IsMade w w' r r' first 2 refl,
  )

module _ {D : Type 0} where
  pub end_statuses : EndStatusesShow D
  end_statuses code h k = (end_done code h k 0 refl, end_ended code h k 3 refl, end_other code h k 5 refl, end_cut_off code h k 12 refl)
