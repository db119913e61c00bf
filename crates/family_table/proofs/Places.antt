-- Each cell has one writer and one reader.
use Rattle.std.proofs.Common.{◌≡◌, ◌≢◌, ℕ, suc, ◌+◌, ◌*◌, ◌<◌, ◌≤◌, sym, ap, ◌∙◌, arith, ⊎_elim, mul-le-mul_right, suc-mul}
use Rattle.std.proofs.lemmas.Bool.{cases_lt}
use Rattle.std.proofs.lemmas.Nat.{div-mul-add, mod-mul-add}
use Rattle.family_table.specs.Places.{place, writer_of, reader_of}

pub writer_there : (n i j : ℕ) → i < n → j < n → j ≢ i → writer_of n (place n i j) ≡ i
writer_there n i j li lj ne = div-mul-add i n j lj

pub reader_there : (n i j : ℕ) → i < n → j < n → j ≢ i → reader_of n (place n i j) ≡ j
reader_there n i j li lj ne = mod-mul-add i n j lj

pub place_in : (n i j : ℕ) → i < n → j < n → j ≢ i → place n i j < n * n
place_in n i j li lj ne =
    let m : suc i * n ≤ n * n = mul-le-mul_right n li in
    let e : suc i * n ≡ i * n + n = omega (arith, suc_mul i n) in
    omega arith where
      suc_mul : (a b : ℕ) → suc a * b ≡ a * b + b
      suc_mul a b = suc-mul a b

-- cells are different where their writers or their readers are
pub place_apart : (n i j i' j' : ℕ) → i < n → j < n → j ≢ i → i' < n → j' < n → j' ≢ i' → place n i j ≡ place n i' j' → (i ≡ i') × (j ≡ j')
place_apart n i j i' j' li lj ne li' lj' ne' e = (
  sym (writer_there n i j li lj ne) ∙ (ap (writer_of n) e ∙ writer_there n i' j' li' lj' ne'),
  sym (reader_there n i j li lj ne) ∙ (ap (reader_of n) e ∙ reader_there n i' j' li' lj' ne'),
)

-- in a row each reader has its place, and in a column each writer
pub row_apart : (n i j h : ℕ) → j ≢ i → h ≢ i → place n i j ≡ place n i h → j ≡ h
row_apart n i j h nj nh e =
    let same : i * n + j ≡ i * n + h = e in omega arith

pub column_apart : (n j h i : ℕ) → h < n → i < n → h ≢ i → j ≢ i → place n j i ≡ place n h i → j ≡ h
column_apart n j h i lh li nh nj e = ⊎_elim
    (λ (l : j < n). (place_apart n j i h i l li (λ q. nj (sym q)) lh li (λ q. nh (sym q)) e).0)
    (λ (l : n ≤ j).
    let low = place_in n h i lh li (λ q. nh (sym q)) in
    let high : n * n ≤ j * n = mul-le-mul_right n l in
    let same : j * n + i ≡ place n h i = e in
    absurd (omega arith))
    (cases_lt j n)
