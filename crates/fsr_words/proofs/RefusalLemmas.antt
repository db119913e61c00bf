-- The statuses of words that are refused and of those that ask for help are apart from others.
use Rattle.std.proofs.Common.{◌≡◌, ◌≢◌, ◌⊎◌, inl, inr, ℕ, arith}

pub of_refused : (status : ℕ) → (status ≡ 2) ⊎ (status ≡ 4) → (status ≢ 0) × (status ≢ 1) × (status ≢ 3) × (status ≢ 5)
of_refused status (inl two) = (
  λ (e : status ≡ 0). omega (arith, two, e),
  λ (e : status ≡ 1). omega (arith, two, e),
  λ (e : status ≡ 3). omega (arith, two, e),
  λ (e : status ≡ 5). omega (arith, two, e),
)
of_refused status (inr four) = (
  λ (e : status ≡ 0). omega (arith, four, e),
  λ (e : status ≡ 1). omega (arith, four, e),
  λ (e : status ≡ 3). omega (arith, four, e),
  λ (e : status ≡ 5). omega (arith, four, e),
)

pub of_asked : (status : ℕ) → (status ≡ 0) ⊎ ((status ≡ 5) ⊎ (status ≡ 4)) → (status ≢ 1) × (status ≢ 2) × (status ≢ 3)
of_asked status (inl none) = (
  λ (e : status ≡ 1). omega (arith, none, e),
  λ (e : status ≡ 2). omega (arith, none, e),
  λ (e : status ≡ 3). omega (arith, none, e),
)
of_asked status (inr (inl five)) = (
  λ (e : status ≡ 1). omega (arith, five, e),
  λ (e : status ≡ 2). omega (arith, five, e),
  λ (e : status ≡ 3). omega (arith, five, e),
)
of_asked status (inr (inr four)) = (
  λ (e : status ≡ 1). omega (arith, four, e),
  λ (e : status ≡ 2). omega (arith, four, e),
  λ (e : status ≡ 3). omega (arith, four, e),
)
