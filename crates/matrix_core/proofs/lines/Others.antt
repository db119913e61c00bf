-- The other processes of a process, and the places of cells.
use Rattle.std.proofs.Common.{◌≡◌, ◌≢◌, ℕ, ◌+◌, ◌-◌, ◌*◌, ◌<◌, ◌≤◌, true, false, refl, arith, ⊎_elim}
use Rattle.std.specs.Prelude.{nat_lt, ◌-◌}
use Rattle.std.proofs.lemmas.Bool.{cases_lt, cases_order}
use Rattle.std.proofs.lemmas.Bool.Decides.{nat_tests}
use Rattle.std.proofs.Math.Nat.{mul-le-mul_right}
use Rattle.matrix_core.specs.Lines.{cell_place, other}
use Rattle.matrix_core.proofs.lists.Elements.{same}

-- the k-th other process: k itself below the process, and the next number from it on
pub other_below : (i k : ℕ) → k < i → other i k ≡ k
other_below i k l = let b : nat_lt k i ≡ true = grind (arith, nat_tests) in rw b refl

pub other_above : (i k : ℕ) → i ≤ k → other i k ≡ k + 1
other_above i k l = let b : nat_lt k i ≡ false = grind (arith, nat_tests) in rw b refl

-- it is one of the processes, and another one
pub other_inside : (n i k : ℕ) → i < n → k + 1 < n → other i k < n
other_inside n i k li lk = ⊎_elim
    (λ (l : k < i). let e : other i k ≡ k = other_below i k l in omega arith)
    (λ (l : i ≤ k). let e : other i k ≡ k + 1 = other_above i k l in omega arith) (cases_lt k i)

pub other_differs : (i k : ℕ) → other i k ≢ i
other_differs i k same = ⊎_elim
    (λ (l : k < i). let e : other i k ≡ k = other_below i k l in let z : other i k ≡ i = same in omega arith)
    (λ (l : i ≤ k). let e : other i k ≡ k + 1 = other_above i k l in let z : other i k ≡ i = same in omega arith) (cases_lt k i)

-- every other process has its number among the others
pub other_reached : (n i j : ℕ) → i < n → j < n → j ≢ i → (k : ℕ) × (k + 1 < n) × (other i k ≡ j)
other_reached n i j li lj ne = ⊎_elim
    (λ (l : j < i). (j, omega arith, other_below i j l))
    (λ (l : i ≤ j). let e : other i (j - 1) ≡ j - 1 + 1 = other_above i (j - 1) (omega arith) in (j - 1, omega arith, omega arith))
    (cases_lt j i)

pub place_inside : (n i j : ℕ) → i < n → j < n → cell_place n i j < n * n
place_inside n i j li lj = let m : (i + 1) * n ≤ n * n = mul-le-mul_right n (omega arith) in omega arith

-- two cells at one place have one writer
pub same_writer : (n i j v w : ℕ) → j < n → w < n → cell_place n i j ≡ cell_place n v w → i ≡ v
same_writer n i j v w lj lw e = ⊎_elim
    (λ (q : i ≡ v). q)
    (λ q. absurd (⊎_elim
    (λ (l : i < v). let m : (i + 1) * n ≤ v * n = mul-le-mul_right n (omega arith) in omega arith)
    (λ (l : v < i). let m : (v + 1) * n ≤ i * n = mul-le-mul_right n (omega arith) in omega arith) q))
    (cases_order i v)
