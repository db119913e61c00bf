-- What follows from the law of choices (this project's own).
use Rattle.std.specs.Prelude.{◌≡◌, ℕ, ◌+◌, ◌≤◌, ◌⊎◌, List}
use Rattle.history_core.specs.declared.history.Kind.TheVariants.{Write, Refused}
use Rattle.matrix_core.specs.Choices.{Choice, IsAtMost, IsIn}
use Rattle.matrix_core.specs.Stamps.{IsBelow, first_stamp}

module _ {R : Type 0} where
  -- Stamps rise along precedence, and strictly towards a write
  abbrev pub StampsRise : (Choice R → Choice R → Type 0) → List (Choice R) → Type 0
  StampsRise Earlier choices =
      (c d : Choice R) → IsIn c choices → IsIn d choices → Earlier c d →
      IsAtMost c.stamp d.stamp × (d.kind ≡ Write → IsBelow c.stamp d.stamp)

  -- of one stamp there is one write
  abbrev pub HasOneWriteEach : List (Choice R) → Type 0
  HasOneWriteEach choices =
      (c d : Choice R) → IsIn c choices → IsIn d choices → c.kind ≡ Write → d.kind ≡ Write → c.stamp ≡ d.stamp → c ≡ d

  -- each choice has the record of the write of its stamp, or the opening
  abbrev pub HaveWrites : R → List (Choice R) → Type 0
  HaveWrites opening choices =
      (c : Choice R) → IsIn c choices →
      ((c.stamp ≡ first_stamp) × (c.item ≡ opening))
      ⊎ ((w : Choice R) × IsIn w choices × (w.kind ≡ Write) × (w.stamp ≡ c.stamp) × (w.item ≡ c.item))

  -- tags rise one by one: a write has the tag 1, or some write has the tag one below. A refused write
  -- has a tag of at least the limit
  abbrev pub TagsRiseByOne : ℕ → List (Choice R) → Type 0
  TagsRiseByOne limit choices =
      (c : Choice R) → IsIn c choices →
      (c.kind ≡ Refused → limit ≤ c.stamp.tag)
      × (c.kind ≡ Write → (c.stamp.tag ≡ 1)
      ⊎ ((w : Choice R) × IsIn w choices × (w.kind ≡ Write) × (w.stamp.tag + 1 ≡ c.stamp.tag)))
