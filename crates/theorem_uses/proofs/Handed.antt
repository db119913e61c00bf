-- A status tells which case it was.
use Rattle.std.proofs.Common.{◌≡◌, ◌≢◌, ℕ, ◌+◌, ◌≤◌, ◌^◌, [], ◌∷◌, ◌++◌, refl, ◌∙◌, ap, arith}
use Rattle.cell_four_slot.specs.Words.{written_by}
use Rattle.cell_contract.specs.Running.{Name}
use Rattle.c_registers.specs.FourSlotCalls.{HasWritten}
use Rattle.c_registers.specs.Handles.{Holding, IsWrite}
use Rattle.c_registers.specs.Handles as handles
use Rattle.c_registers.specs.Numbers.{numbered}
use Rattle.theorem_uses.proofs.Lacking.{lacks_ended, lacks_other, lacks_cut_off, lacks_by_three, lacks_not_by_four}
use Rattle.theorem_uses.specs.Handles.{PassesOfCellsShow, StatusesShow, WrittenShows}

module _ {D P W : Type 0} (code : ℕ) (writes : P → D) (last : P → ℕ) (has_written : P → P → W → Type 0) (h k : Holding D) (item : W) where
  abbrev Was : ℕ → Type 0
  Was n = IsWrite code writes last has_written h k item n

  pub done : (n : ℕ) → n ≡ 0 → Was n → (p : P) × (q : P) × (h.live ≡ code) × (h.side ≡ writes p) × (k.live ≡ code) × (k.side ≡ writes q)
      × has_written p q item
  done n e (handles.done p q had has wrote) = (p, q, had.0, had.1, has.0, has.1, wrote)
  done n e (handles.at_limit p had most keeps) = absurd (omega (arith, e))
  done n e (handles.refused r) = absurd (let least = lacks_by_three n r.1 in omega (arith, e, least))

  pub ended : (n : ℕ) → n ≡ 3 → Was n → (h.live ≡ 0) × (k ≡ h)
  ended n e (handles.done p q had has wrote) = absurd (omega (arith, e))
  ended n e (handles.at_limit p had most keeps) = absurd (omega (arith, e))
  ended n e (handles.refused r) = (lacks_ended n e r.1, r.2)

  pub at_limit : (n : ℕ) → n ≡ 4 → Was n → (p : P) × (h.live ≡ code) × (h.side ≡ writes p) × (2 ^ 64 ≤ last p + 1) × (k ≡ h)
  at_limit n e (handles.done p q had has wrote) = absurd (omega (arith, e))
  at_limit n e (handles.at_limit p had most keeps) = (p, had.0, had.1, most, keeps)
  at_limit n e (handles.refused r) = absurd (lacks_not_by_four n r.1 e)

  pub other : (n : ℕ) → n ≡ 5 → Was n → (h.live ≢ 0) × (h.live ≢ code) × (k ≡ h)
  other n e (handles.done p q had has wrote) = absurd (omega (arith, e))
  other n e (handles.at_limit p had most keeps) = absurd (omega (arith, e))
  other n e (handles.refused r) = ((lacks_other n e r.1).0, r.0, r.2)

  pub cut_off : (n : ℕ) → n ≡ 12 → Was n → (h.live ≡ 255) × (k ≡ h)
  cut_off n e (handles.done p q had has wrote) = absurd (omega (arith, e))
  cut_off n e (handles.at_limit p had most keeps) = absurd (omega (arith, e))
  cut_off n e (handles.refused r) = (lacks_cut_off n e r.1, r.2)

pub statuses : {D W : Type 0} → StatusesShow D W
statuses code writes last h k item = (
  done code writes last HasWritten h k item 0 refl,
  ended code writes last HasWritten h k item 3 refl,
  at_limit code writes last HasWritten h k item 4 refl,
  other code writes last HasWritten h k item 5 refl,
  cut_off code writes last HasWritten h k item 12 refl,
)

pub written : {W : Type 0} → WrittenShows W
written p q w h = (
  h.same,
  h.next,
  h.written ∙ ap (λ z. written_by p.put ++ numbered z w ∷ []) h.next,
  h.accesses,
  h.quiet,
  h.moved,
  h.timed,
)

pub of_cells : {T : Type 0} → PassesOfCellsShow T
of_cells {T} c p g = (
  λ h. (ap (λ (n : Name T). n.table) h, ap (λ (n : Name T). n.opening) h),
  λ h. (ap (λ (n : Name T). n.table) h, ap (λ (n : Name T). n.opening) h),
)
