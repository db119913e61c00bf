-- Times that are there before others.
use Rattle.std.proofs.Common.{◌≡◌, ℕ, ◌<◌, Option, None, Some, refl, arith}
use Rattle.std.proofs.lemmas.Option.{same_Some}
use Rattle.history_core.specs.Registers.{IsBefore}

pub of_before : (a b : Option ℕ) → IsBefore a b → (x : ℕ) × (a ≡ Some x) × ((y : ℕ) → b ≡ Some y → x < y)
of_before None b h = absurd h
of_before (Some x) None h = (x, refl, λ y e. cc)
of_before (Some x) (Some z) h = (x, refl, λ y e. let same : z ≡ y = same_Some z y e in omega arith)

pub to_before : (a b : Option ℕ) (x : ℕ) → a ≡ Some x → ((y : ℕ) → b ≡ Some y → x < y) → IsBefore a b
to_before None b x e h = cc
to_before (Some a) None x e h = tt
to_before (Some a) (Some b) x e h = let same : a ≡ x = same_Some a x e in omega (arith, h b refl)
