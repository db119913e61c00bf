-- What a step does with the slots of its seat (this project's own).
use Rattle.std.specs.Prelude.{ℕ, List, [], ◌∷◌}
use Rattle.atomic_table.specs.Table.{Act, keeps, takes, gives, chain, carried_after}

module _ {S : Type 0} where
  abbrev pub HasOne : List (ℕ × S) → Type 0
  HasOne [] = ⊥
  HasOne (x ∷ cs) = Unit {0}

  -- one act, which gives back only a slot that the seat has
  abbrev pub Proper : List (ℕ × S) → Act S → Type 0
  Proper cs keeps = Unit {0}
  Proper cs (takes k y) = Unit {0}
  Proper cs gives = HasOne cs
  Proper cs (chain x y) = ⊥

  -- acts in turn, each of which gives back only a slot that the seat then has
  abbrev pub ProperAll : List (ℕ × S) → Act S → Type 0
  ProperAll cs keeps = Unit {0}
  ProperAll cs (takes k y) = Unit {0}
  ProperAll cs gives = HasOne cs
  ProperAll cs (chain x y) = ProperAll cs x × ProperAll (carried_after cs x) y
