-- Two reads beside one write: the first has its number and the second 0, place by place.
use Rattle.std.proofs.Common.{◌≡◌, ℕ, zero, suc, ◌+◌, ◌<◌, [], ◌∷◌, slice_get, Some, refl, subst, arith}
use Rattle.std.proofs.lemmas.Option.{none-some, same_Some}
use Rattle.history_core.specs.Registers.{IsBefore, IsReadOf, IsRegular, one_long_write, two_short_reads}

late : (m n k : ℕ) → slice_get (1 ∷ 0 ∷ []) m ≡ Some n → IsBefore (one_long_write.ends k) (two_short_reads.begins m) → k < n
late zero n zero at b = absurd (let x : 9 < 2 = b in omega arith)
late (suc zero) n zero at b = absurd (let x : 9 < 4 = b in omega arith)
late (suc (suc m)) n zero at b = absurd (none-some n at)
late m n (suc k) at b = absurd b

begun : (m n k : ℕ) → slice_get (1 ∷ 0 ∷ []) m ≡ Some n → n ≡ k + 1 → IsBefore (one_long_write.begins k) (two_short_reads.ends m)
begun zero n zero at e = let l : 1 < 3 = omega arith in l
begun zero n (suc k) at e = absurd (let x : 1 ≡ n = same_Some 1 n at in omega arith)
begun (suc zero) n k at e = absurd (let x : 0 ≡ n = same_Some 0 n at in omega arith)
begun (suc (suc m)) n k at e = absurd (none-some n at)

source : (m n x : ℕ) → slice_get (1 ∷ 0 ∷ []) m ≡ Some n → slice_get (8 ∷ 7 ∷ []) m ≡ Some x → slice_get (7 ∷ 8 ∷ []) n ≡ Some x
source zero n x at is = subst (λ z. slice_get (7 ∷ 8 ∷ []) z ≡ Some x) (same_Some 1 n at) is
source (suc zero) n x at is = subst (λ z. slice_get (7 ∷ 8 ∷ []) z ≡ Some x) (same_Some 0 n at) is
source (suc (suc m)) n x at is = absurd (none-some n at)

read_of : (m n : ℕ) → slice_get (1 ∷ 0 ∷ []) m ≡ Some n → IsReadOf one_long_write two_short_reads m n
read_of m n at = record { late = λ k b. late m n k at b; begun = λ k e. begun m n k at e }

pub falls : IsRegular {T = ℕ} 7 (8 ∷ []) one_long_write (8 ∷ 7 ∷ []) (1 ∷ 0 ∷ []) two_short_reads
falls = record { source = source; read_of = read_of; numbered = refl }
