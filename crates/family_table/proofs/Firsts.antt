-- Lists of elements in turn, and lists of one element again and again.
use Rattle.std.proofs.Common.{◌≡◌, ℕ, zero, suc, ◌+◌, ◌-◌, ◌*◌, ◌<◌, ◌≤◌, Bool, true, List, [], ◌∷◌, ◌++◌, map, take, length, get_or}
use Rattle.std.proofs.Common.{replicate, refl}
use Rattle.std.proofs.Common.{sym, ap, ◌∙◌, arith, length-append}
use Rattle.std.specs.Prelude.{if◌then◌else◌}
use mathlib.Core.Option.{some, some-injective, some-ne-none}
use lib.ListN.{get_elem?, get_or-replicate}
use Rattle.family_table.specs.Places.{upto}

module _ {A : Type 0} where
  pub upto_long : (f : ℕ → A) (b m : ℕ) → length (upto f b m) ≡ m
  upto_long f b zero = refl
  upto_long f b (suc m) = ap suc (upto_long f (b + 1) m)

  pub upto_at : (f : ℕ → A) (b m i : ℕ) (x : A) → get_elem? (upto f b m) i ≡ some x → x ≡ f (b + i)
  upto_at f b zero i x e = absurd (some-ne-none x (sym e))
  upto_at f b (suc m) zero x e = sym (some-injective (f b) x e) ∙ ap f (omega arith)
  upto_at f b (suc m) (suc i) x e = upto_at f (b + 1) m i x e ∙ ap f (omega arith)

  pub upto_get : (f : ℕ → A) (b m i : ℕ) (d : A) → i < m → get_or (upto f b m) i d ≡ f (b + i)
  upto_get f b zero i d l = absurd (omega arith)
  upto_get f b (suc m) zero d l = ap f (omega arith)
  upto_get f b (suc m) (suc i) d l = upto_get f (b + 1) m i d (omega arith) ∙ ap f (omega arith)

  pub map_at : {B : Type 0} (f : A → B) (xs : List A) (i : ℕ) (y : B) → get_elem? (map f xs) i ≡ some y → (x : A)
      × (get_elem? xs i ≡ some x) × (y ≡ f x)
  map_at f [] i y e = absurd (some-ne-none y (sym e))
  map_at f (x ∷ xs) zero y e = (x, refl, sym (some-injective (f x) y e))
  map_at f (x ∷ xs) (suc i) y e = map_at f xs i y e

  take_none : (n : ℕ) → take {A = A} n [] ≡ []
  take_none zero = refl
  take_none (suc n) = refl

  -- an empty vector that was filled up
  pub filled : (b : Bool) (n m : ℕ) (xs ys : List A) (x : A) → b ≡ true → xs ≡ [] → m ≡ 0 →
      ys ≡ (if b then take n xs ++ replicate (n - m) x else xs) → ys ≡ replicate n x
  filled b n m xs ys x t e z h = h ∙ (ap (λ c. if c then take n xs ++ replicate (n - m) x else xs) t
      ∙ (ap (λ zs. take n zs ++ replicate (n - m) x) e ∙ (ap (λ zs. zs ++ replicate (n - m) x) (take_none n)
      ∙ ap (λ k. replicate k x) (let d : n - m ≡ n = omega arith in d))))

  pub replicate_long : (n : ℕ) (x : A) → length (replicate n x) ≡ n
  replicate_long zero x = refl
  replicate_long (suc n) x = ap suc (replicate_long n x)

  behind : (xs ys : List A) (i : ℕ) (d : A) → get_or (xs ++ ys) (length xs + i) d ≡ get_or ys i d
  behind [] ys i d = ap (λ j. get_or ys j d) (omega arith)
  behind (x ∷ xs) ys i d = ap (λ j. get_or (x ∷ (xs ++ ys)) j d) (let e : suc (length xs) + i ≡ suc (length xs + i) = omega arith in e)
      ∙ behind xs ys i d

  take_long : (n : ℕ) (xs : List A) → length xs ≤ n → take n xs ≡ xs
  take_long n [] l = take_none n
  take_long zero (x ∷ xs) l = absurd (omega arith)
  take_long (suc n) (x ∷ xs) l = ap (λ ys. x ∷ ys) (take_long n xs (omega arith))

  -- and filled up further
  pub filled_more : (b : Bool) (n m k j : ℕ) (xs ys : List A) (x y : A) → b ≡ true → xs ≡ replicate k x → m ≡ k → n ≡ k + j →
      ys ≡ (if b then take n xs ++ replicate (n - m) y else xs) → ys ≡ replicate k x ++ replicate j y
  filled_more b n m k j xs ys x y t e z w h = h ∙ (ap (λ c. if c then take n xs ++ replicate (n - m) y else xs) t
      ∙ (ap (λ zs. take n zs ++ replicate (n - m) y) e
      ∙ (ap (λ zs. zs ++ replicate (n - m) y) (take_long n (replicate k x) (let l = replicate_long k x in omega arith))
      ∙ ap (λ i. replicate k x ++ replicate i y) (let d : n - m ≡ j = omega arith in d))))

  pub map_replicate : {B : Type 0} (f : A → B) (n : ℕ) (x : A) → map f (replicate n x) ≡ replicate n (f x)
  map_replicate f zero x = refl
  map_replicate f (suc n) x = ap (λ ys. f x ∷ ys) (map_replicate f n x)

-- as many as there are of these in turn, the first one in front
pub upto_next : {A : Type 0} (f : ℕ → A) (i n : ℕ) → i < n → upto f i (n - i) ≡ f i ∷ upto f (i + 1) (n - (i + 1))
upto_next f i n l = ap (upto f i) (let e : n - i ≡ suc (n - (i + 1)) = omega arith in e)

-- the words of a new table: those of so many words of cells, and then 8 for each process, which hold 0
module _ (cells word n : ℕ) where
  pub words_long : length (replicate cells word ++ replicate {A = ℕ} (8 * n) 0) ≡ cells + 8 * n
  words_long =
      let a = length-append (replicate cells word) (replicate {A = ℕ} (8 * n) 0) in
      let b : length (replicate cells word) ≡ cells = replicate_long cells word in
      let c : length (replicate {A = ℕ} (8 * n) 0) ≡ 8 * n = replicate_long (8 * n) 0 in
      omega arith

  pub unsaid : (i : ℕ) → i < n → get_or (replicate cells word ++ replicate (8 * n) 0) (cells + 8 * i) 0 ≡ 0
  unsaid i l = ap (λ j. get_or (replicate cells word ++ replicate (8 * n) 0) (j + 8 * i) 0) (sym (replicate_long cells word))
      ∙ (behind (replicate cells word) (replicate (8 * n) 0) (8 * i) 0 ∙ get_or-replicate (8 * n) (8 * i) 0 0 (omega arith))
