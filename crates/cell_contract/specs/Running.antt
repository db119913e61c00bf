-- What a cell's contract says of the records written, the answers and what a pass was told
-- (this project's definitions).
use Rattle.std.specs.Prelude.{◌≡◌, ◌⊎◌, ℕ, List, [], ◌∷◌, All, map}
use mathlib.Core.Option.{some}
use lib.ListN.{get_elem?}
use Rattle.atomic_table.specs.Seated.{TableId}
use Rattle.std.specs.declared.snapshot.Snapshot.{Snapshot}

module _ {T : Type 0} where
  -- the last record of the list, or the first argument where there is none
  abbrev pub last_or : T → List T → T
  last_or x [] = x
  last_or x (y ∷ ys) = last_or y ys

  -- answers settled against a list that begins with x, where `rest` says what is settled against the others
  abbrev pub settled_from : T → (List T → Type 0) → List T → Type 0
  settled_from x rest [] = Unit {0}
  settled_from x rest (a ∷ ys) = ((x ≡ a) × settled_from x rest ys) ⊎ rest (a ∷ ys)

  -- *Settled*: the answers stand in the list, at places that never fall. There are no answers; or the list isn't empty,
  -- and either its first record is the first answer and the others are settled against the same list, or all answers
  -- are settled against the list without its first record.
  abbrev pub Settled : List T → List T → Type 0
  Settled [] [] = Unit {0}
  Settled [] (a ∷ ys) = ⊥
  Settled (x ∷ xs) ys = settled_from x (Settled xs) ys

  -- the record stands somewhere in the list
  abbrev pub Stands : T → List T → Type 0
  Stands x xs = (k : ℕ) × (get_elem? xs k ≡ some x)

module _ {T : Type 0} (fits : T → Type 0) (rises : T → T → Type 0) where
  -- each record fits and rises from the one before
  abbrev pub Rising : T → List T → Type 0
  Rising x [] = Unit {0}
  Rising x (y ∷ ys) = fits y × rises x y × Rising y ys

  -- *Running cell*: an answer fits, and rises from the opening, from the answer before it, and from every
  -- record that the pass had been told
  abbrev pub IsAnswer : T → List T → List T → T → Type 0
  IsAnswer opening answers told x = fits x × rises opening x × rises (last_or opening answers) x
      × All (λ t. rises t x) told

-- which cell it is, and the record that it opened with
pub record Name (T : Type 0) : Type 0 where
  pub table : TableId
  pub opening : T

-- the two names are one
abbrev pub IsName : {T : Type 0} → Name T → Name T → Type 0
IsName a b = a ≡ b

-- the slots that a seat holds
abbrev pub held_slots : {S : Type 0} → List (ℕ × S) → List ℕ
held_slots cs = map (λ x. x.0) cs

-- a record as a view keeps it, with no bytes
abbrev pub snap : {A : Type 0} → A → Snapshot A
snap x = record { marker = record {}; value = x }
