-- Zeros and copies of the record are a family at the start.
use Rattle.std.proofs.Common.{◌≡◌, ℕ, ◌+◌, ◌*◌, ◌<◌, length, List, [], ◌∷◌, ◌++◌, map, replicate}
use Rattle.std.proofs.Common.{refl, sym, ap, ◌∙◌, subst, arith, append-nil}
use mathlib.Core.Option.{none, some}
use Rattle.atomic_table.specs.Table.{opening}
use Rattle.cell_contract.specs.declared.sight.Sight.TheVariants.{Spent}
use Rattle.cell_four_slot.specs.Steps.{FourSlotSight}
use Rattle.family_table.specs.declared.notes.Process.{Process}
use Rattle.family_table.specs.Layouts.{gather}
use Rattle.family_table.specs.Family.{of_cell}
use Rattle.family_four_slot.specs.Places.{four_slots}
use Rattle.family_table.specs.Places.{upto}
use Rattle.family_four_slot.specs.FourSlots.{first_part, first_process, first_view, CellRule, FourSlotFamily, Shaped}
use Rattle.family_table.proofs.Slices.{gather_front, gather_replicate, within}
use Rattle.family_four_slot.specs.Laid.{is_layout}
use Rattle.family_table.proofs.Seats.{family_starts}
use Rattle.family_four_slot.specs.Cells.{cell_starts}
use Rattle.family_table.proofs.Firsts.{upto_long, upto_at, upto_get, map_at, map_replicate, replicate_long, unsaid, words_long}

module _ {T : Type 0} (fits : T → Type 0) (rises : T → T → Type 0) (Plan : ℕ → Process (FourSlotSight T) → Type 0) (o : T) (n : ℕ) where
  abbrev V : Type 0
  V = FourSlotSight T

  pub four_slots_start : fits o → ((i : ℕ) → i < n → Shaped n Plan i (first_process o n i)) →
      FourSlotFamily fits rises o Plan n (opening (replicate (16 * (n * n) + 8) 0 ++ replicate (8 * n) 0)
      (replicate (4 * (n * n)) o) (first_view o n))
  four_slots_start f planned =
      let cells : ℕ = n * n in
      let ps : List (Process V) = upto (first_process o n) 0 n in
      let front : List ℕ = replicate (16 * cells + 8) 0 in
      let ws : List ℕ = front ++ replicate (8 * n) 0 in
      let hs : List T = replicate (4 * cells) o in
      family_starts Spent (four_slots n) (CellRule fits rises o) (Shaped n Plan) n ws hs ps (words_long (16 * cells + 8) 0 n)
      (unsaid (16 * cells + 8) 0 n) (replicate_long (4 * cells) o)
      (upto_long (first_process o n) 0 n)
      (λ i p e.
      let is : p ≡ first_process o n i =
      upto_at (first_process o n) 0 n i p e ∙ ap (first_process o n) (let z : 0 + i ≡ i = omega arith in z) in
      subst (λ (q : Process V). (q.who ≡ i) × (q.clock ≡ 0) × (q.times ≡ []) × (q.held ≡ []) × (q.said ≡ []) × (q.found ≡ []))
      (sym is) (refl, refl, refl, refl, refl, refl))
      (λ i p e.
      let is : p ≡ first_process o n i =
      upto_at (first_process o n) 0 n i p e ∙ ap (first_process o n) (let z : 0 + i ≡ i = omega arith in z) in
      let low : i < length ps = within ps i p e in
      let many : length ps ≡ n = upto_long (first_process o n) 0 n in
      subst (Shaped n Plan i) (sym is) (planned i (omega arith)))
      (λ k lk.
      let G : Process V → V = λ (p : Process V). of_cell Spent k p.parts in
      let homes : gather ((four_slots n).slot k) 4 none (map some hs) ≡ some o ∷ some o ∷ some o ∷ some o ∷ [] =
      ap (gather ((four_slots n).slot k) 4 none) (map_replicate some (4 * cells) o)
      ∙ gather_replicate ((four_slots n).slot k) 4 none (4 * cells) (some o) (λ i li. (is_layout n).slot_in k i lk li) in
      let words : gather ((four_slots n).word k) 4 0 ws ≡ 0 ∷ 0 ∷ 0 ∷ 0 ∷ [] =
      gather_front ((four_slots n).word k) 4 0 front (replicate (8 * n) 0)
      (λ i li. let low = (is_layout n).word_in k i lk li in
      let long : length front ≡ 16 * cells + 8 = replicate_long (16 * cells + 8) 0 in omega arith)
      ∙ gather_replicate ((four_slots n).word k) 4 0 (16 * cells + 8) 0 (λ i li. (is_layout n).word_in k i lk li) in
      let views : map G ps ++ [] ≡ map G ps = append-nil (map G ps) in
      subst (CellRule fits rises o 0) (λ z. record { words = sym words z; homes = sym homes z; views = sym views z })
      (cell_starts fits rises o n k (map G ps) f
      (λ j v e.
      let x = map_at G ps j v e in
      let is : x.0 ≡ first_process o n j =
      upto_at (first_process o n) 0 n j x.0 x.1 ∙ ap (first_process o n) (let z : 0 + j ≡ j = omega arith in z) in
      x.2 ∙ (ap G is ∙ (upto_get (first_part o n j) 0 cells k Spent lk ∙ ap (first_part o n j) (let z : 0 + k ≡ k = omega arith in z))))))
