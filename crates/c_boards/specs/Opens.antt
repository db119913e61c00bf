-- Boards that are opened for C (this project's definitions).
use Rattle.std.specs.Prelude.{◌≡◌, ℕ, ◌<◌, ◌≤◌, List, [], ◌∷◌, length, Vec, Result, Ok, Err}
use Rattle.std.proofs.Common.{Global}
use Rattle.std.specs.Global.{Box}
use Rattle.board_live.specs.declared.deals.BoardError.{BoardError}
use Rattle.board_live.specs.declared.deals.BoardError.TheVariants.{Processes, Limit, Opening, NoMemory}

-- a board may have so many processes, and this limit
abbrev pub MayHave : ℕ → Type 0
MayHave n = (2 ≤ n) × (n ≤ 16)

abbrev pub MayEnd : ℕ → Type 0
MayEnd limit = (1 ≤ limit) × (limit < 18446744073709551615)

-- why a board wasn't opened, where every record is lawful
abbrev pub IsWhy : ℕ → ℕ → BoardError → Type 0
IsWhy n limit Processes = MayHave n → ⊥
IsWhy n limit Limit = MayHave n × (MayEnd limit → ⊥)
IsWhy n limit Opening = ⊥
IsWhy n limit NoMemory = MayHave n × MayEnd limit

-- the elements of two lists of one length, in pairs
abbrev pub Pairs : {A B : Type 0} → (A → B → Type 0) → List A → List B → Type 0
Pairs R [] [] = Unit {0}
Pairs R [] (y ∷ ys) = ⊥
Pairs R (x ∷ xs) [] = ⊥
Pairs R (x ∷ xs) (y ∷ ys) = R x y × Pairs R xs ys

-- the boxes have these places
abbrev pub AreBoxed : {D S : Type 0} → (S → D) → List S → List (Box D) → Type 0
AreBoxed side ss bs = Pairs (λ s b. b.value ≡ side s) ss bs

module _ {S W : Type 0} where
  abbrev pub OpensPlaces : (ℕ → ℕ → W → List S → Type 0) → ℕ → ℕ → W → Result (Vec S Global) BoardError → Type 0
  OpensPlaces is_made n limit w (Ok v) = is_made n limit w v.items × (length v.items ≡ n) × MayHave n × MayEnd limit
  OpensPlaces is_made n limit w (Err e) = IsWhy n limit e

  abbrev pub OpensBoxes : {D : Type 0} → (S → D) → (ℕ → ℕ → W → List S → Type 0) → ℕ → ℕ → W
      → Result (Vec (Box D) Global) BoardError → Type 0
  OpensBoxes side is_made n limit w (Ok v) = (ss : List S) × is_made n limit w ss × (length v.items ≡ n)
      × AreBoxed side ss v.items
  OpensBoxes side is_made n limit w (Err e) = IsWhy n limit e
