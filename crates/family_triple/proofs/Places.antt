-- The others of a process by their numbers among these.
use Rattle.std.proofs.Common.{◌≡◌, ◌≢◌, ℕ, ◌+◌, ◌-◌, ◌*◌, ◌<◌, ◌≤◌, nat_lt, cond, true, false, ap, ◌∙◌, ⊎_elim, arith}
use Rattle.std.proofs.lemmas.Bool.Decides.{nat_tests}
use Rattle.std.proofs.lemmas.Bool.{cases_lt}
use Rattle.history_core.specs.Others.{other}
use Rattle.family_triple.specs.Places.{among}

below : (a b : ℕ) → a < b → nat_lt a b ≡ true
below a b l = grind (arith, nat_tests)

not_below : (a b : ℕ) → b ≤ a → nat_lt a b ≡ false
not_below a b l = grind (arith, nat_tests)

among_less : (i j : ℕ) → j < i → among i j ≡ j
among_less i j l = ap (λ b. cond {A = ℕ} b j (j - 1)) (below j i l)

among_more : (i j : ℕ) → i ≤ j → among i j ≡ j - 1
among_more i j l = ap (λ b. cond {A = ℕ} b j (j - 1)) (not_below j i l)

more : (i j : ℕ) → i ≤ j → j ≢ i → i < j
more i j l ne = ⊎_elim (λ (h : i < j). h) (λ (h : j ≤ i). absurd (ne (omega arith))) (cases_lt i j)

pub among_small : (n i j : ℕ) → i < n → j < n → j ≢ i → among i j < n - 1
among_small n i j li lj ne = ⊎_elim (λ (l : j < i). let e = among_less i j l in let z : among i j < n - 1 = omega arith in z)
    (λ (l : i ≤ j). let e = among_more i j l in let m = more i j l ne in let z : among i j < n - 1 = omega arith in z) (cases_lt j i)

pub other_among : (i j : ℕ) → j ≢ i → other i (among i j) ≡ j
other_among i j ne = ⊎_elim
    (λ (l : j < i). ap (other i) (among_less i j l) ∙ ap (λ b. cond {A = ℕ} b j (j + 1)) (below j i l))
    (λ (l : i ≤ j). let m = more i j l ne in
    ap (other i) (among_more i j l) ∙ (ap (λ b. cond {A = ℕ} b (j - 1) ((j - 1) + 1)) (not_below (j - 1) i (omega arith))
    ∙ (let e : (j - 1) + 1 ≡ j = omega arith in e)))
    (cases_lt j i)

other_less : (i k : ℕ) → k < i → other i k ≡ k
other_less i k l = ap (λ b. cond {A = ℕ} b k (k + 1)) (below k i l)

other_more : (i k : ℕ) → i ≤ k → other i k ≡ k + 1
other_more i k l = ap (λ b. cond {A = ℕ} b k (k + 1)) (not_below k i l)

pub other_low : (n i k : ℕ) → k < n - 1 → i < n → other i k < n
other_low n i k lk li = ⊎_elim (λ (l : k < i). let e = other_less i k l in let z : other i k < n = omega arith in z)
    (λ (l : i ≤ k). let e = other_more i k l in let z : other i k < n = omega arith in z) (cases_lt k i)

pub other_else : (i k : ℕ) → other i k ≢ i
other_else i k same = ⊎_elim (λ (l : k < i). let e = other_less i k l in absurd (omega arith))
    (λ (l : i ≤ k). let e = other_more i k l in absurd (omega arith)) (cases_lt k i)

pub among_other : (i k : ℕ) → among i (other i k) ≡ k
among_other i k = ⊎_elim (λ (l : k < i). ap (among i) (other_less i k l) ∙ among_less i k l)
    (λ (l : i ≤ k). ap (among i) (other_more i k l) ∙ (among_more i (k + 1) (let z : i ≤ k + 1 = omega arith in z)
    ∙ (let z : (k + 1) - 1 ≡ k = omega arith in z)))
    (cases_lt k i)
