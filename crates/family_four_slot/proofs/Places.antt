-- The words of a cell's bits.
use Rattle.std.proofs.Common.{◌≡◌, ℕ, zero, suc, ◌+◌, ◌*◌, ◌<◌, ◌≤◌}
use Rattle.std.proofs.Common.{refl, sym, ap, arith}
use Rattle.family_four_slot.specs.Places.{offset, word_at}

-- the word of a pair's bit
pub bit_word : (k pair : ℕ) → 16 * k + 8 + (2 + pair) ≡ word_at k (2 + pair)
bit_word k pair = ap (λ z. 16 * k + 8 + z) (sym (ap offset (let e : 2 + pair ≡ suc (suc pair) = omega arith in e)))
