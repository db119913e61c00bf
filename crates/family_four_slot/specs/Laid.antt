-- Each cell of a family has places of its own in the table (this project's own).
use Rattle.std.proofs.Common.{◌≡◌, ℕ, zero, suc, ◌+◌, ◌*◌, ◌<◌, ◌≤◌, refl, arith}
use Rattle.family_table.specs.Layouts.{IsLayout}
use Rattle.family_four_slot.specs.Places.{offset, word_at, slot_at, four_slots}

offset_small : (i : ℕ) → i < 4 → offset i ≤ 8
offset_small zero l = omega arith
offset_small (suc zero) l = omega arith
offset_small (suc (suc i)) l = omega arith

offset_apart : (i h : ℕ) → i < 4 → h < 4 → offset i ≡ offset h → i ≡ h
offset_apart zero zero l m e = refl
offset_apart zero (suc zero) l m e = absurd (omega arith)
offset_apart zero (suc (suc h)) l m e = absurd (omega arith)
offset_apart (suc zero) zero l m e = absurd (omega arith)
offset_apart (suc zero) (suc zero) l m e = refl
offset_apart (suc zero) (suc (suc h)) l m e = absurd (omega arith)
offset_apart (suc (suc i)) zero l m e = absurd (omega arith)
offset_apart (suc (suc i)) (suc zero) l m e = absurd (omega arith)
offset_apart (suc (suc i)) (suc (suc h)) l m e = omega arith

pub is_layout : (n : ℕ) → IsLayout (four_slots n)
is_layout n = record {
  word_in = λ k i lk li. let a = offset_small i li in let z : word_at k i < 16 * (n * n) + 8 = omega arith in z;
  slot_in = λ k i lk li. let z : slot_at k i < 4 * (n * n) = omega arith in z;
  word_apart = λ k i j h li lh e.
      let a = offset_small i li in
      let b = offset_small h lh in
      let f : 16 * k + 8 + offset i ≡ 16 * j + 8 + offset h = e in
      let same : k ≡ j = omega arith in
      (same, offset_apart i h li lh (omega arith));
  slot_apart = λ k i j h li lh e. let f : 4 * k + i ≡ 4 * j + h = e in (omega arith, omega arith);
}
