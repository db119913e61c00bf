-- Choices that are gathered from cells: each operation saw the greatest of its process's own record and of
-- the records whose numbers the reads of its column have. It is a law that these follow the law of
-- choices. This is this project's own.
use Rattle.std.specs.Prelude.{◌≡◌, ℕ, zero, suc, ◌+◌, ◌<◌, List, [], ◌∷◌, ◌++◌, length, slice_get, Option, Some, nat_eq}
use Rattle.std.specs.Prelude.{if◌then◌else◌}
use Rattle.std.specs.Option.{option_map}
use Rattle.matrix_core.specs.declared.stamp.Stamped.{Stamped}
use Rattle.matrix_core.specs.Choices.{Choice, ChoosesByKind, IsIn}
use Rattle.matrix_core.specs.Stamps.{greatest}
use Rattle.matrix_core.specs.Lines.{first_record, other}

module _ {R : Type 0} where
  abbrev pub record_of : Choice R → Stamped R
  record_of c = record { stamp = c.stamp; item = c.item }

  -- the choices of one process, the oldest first
  abbrev pub choices_of : ℕ → List (Choice R) → List (Choice R)
  choices_of i [] = []
  choices_of i (c ∷ past) = if nat_eq c.who i then choices_of i past ++ c ∷ [] else choices_of i past

  -- the record with this number, where these choices have the numbers 1, 2, .. and the opening has 0
  abbrev pub numbered : R → List (Choice R) → ℕ → Option (Stamped R)
  numbered opening mine zero = Some (first_record opening)
  numbered opening mine (suc k) = option_map record_of (slice_get mine k)

  -- an answer of the cell of a process with these choices so far: the record with its number, which is at least that of
  -- each choice whose operation is earlier than the reader's
  pub record IsCellAnswer (Before : Choice R → Type 0) (opening : R) (mine : List (Choice R))
      (answer : Stamped R) : Type 0 where
    pub number : ℕ
    pub source : numbered opening mine number ≡ Some answer
    pub late : (k : ℕ) (d : Choice R) → slice_get mine k ≡ Some d → Before d → k < number

  -- a choice of one of n processes after those of the past, the newest first: it saw the greatest of the newest record
  -- of its own and of one answer of each other process
  pub record Gathers (Earlier : Choice R → Choice R → Type 0) (opening : R) (limit n : ℕ) (past : List (Choice R))
      (c : Choice R) : Type 0 where
    pub own : Stamped R
    pub newest : numbered opening (choices_of c.who past) (length (choices_of c.who past)) ≡ Some own
    pub answers : List (Stamped R)
    pub each : length answers + 1 ≡ n
    pub answered : (k : ℕ) (answer : Stamped R) → slice_get answers k ≡ Some answer →
        IsCellAnswer (λ d. Earlier d c) opening (choices_of (other c.who k) past) answer
    pub chosen : ChoosesByKind limit c c.kind (greatest own answers).stamp (greatest own answers).item
    pub not_later : (d : Choice R) → IsIn d past → ¬ Earlier c d
    pub interval : ¬ Earlier c c
    pub inside : c.who < n

  abbrev pub AllGather : (Choice R → Choice R → Type 0) → R → ℕ → ℕ → List (Choice R) → Type 0
  AllGather Earlier opening limit n [] = Unit {0}
  AllGather Earlier opening limit n (c ∷ past) = Gathers Earlier opening limit n past c
      × AllGather Earlier opening limit n past
