-- The records that finished reads gave, by their numbers (this project's own).
use Rattle.std.specs.Prelude.{◌≡◌, ◌⊎◌, ℕ, Bool, true, false, List, length, slice_get, nat_eq, Option, None}
use Rattle.std.specs.Prelude.{Some, if◌then◌else◌, unwrap_or}
use Rattle.history_core.specs.declared.history.Op.{Op}
use Rattle.history_core.specs.declared.history.Kind.{Kind}
use Rattle.history_core.specs.declared.history.Kind.TheVariants.{Write, Read, Refused}
use Rattle.kept_lines.specs.declared.reads.Reads.{Reads}

-- the record of a finished read, if it isn't the opening, whose number is 0
abbrev pub gave_number : Option ℕ → Option ℕ → Option ℕ
gave_number None item = None
gave_number (Some end) None = None
gave_number (Some end) (Some number) = if nat_eq number 0 then None else Some number

abbrev pub gave_by : Kind → Option ℕ → Option ℕ → Option ℕ
gave_by Read ends item = gave_number ends item
gave_by Write ends item = None
gave_by Refused ends item = None

abbrev pub gave : Op ℕ → Option ℕ
gave o = gave_by o.kind o.ends o.item

-- these are the records that finished reads of the log gave, each once
pub record AreGiven (log : List (Op ℕ)) (numbers : List ℕ) : Type 0 where
  pub distinct : (i j n : ℕ) → slice_get numbers i ≡ Some n → slice_get numbers j ≡ Some n → i ≡ j
  pub from : (i n : ℕ) → slice_get numbers i ≡ Some n →
      (p : ℕ) × (o : Op ℕ) × (slice_get log p ≡ Some o) × (gave o ≡ Some n)
  pub all : (p n : ℕ) (o : Op ℕ) → slice_get log p ≡ Some o → gave o ≡ Some n → (i : ℕ) × (slice_get numbers i ≡ Some n)

-- so many records were read
abbrev pub WereRead : List (Op ℕ) → ℕ → Type 0
WereRead log count = (numbers : List ℕ) × AreGiven log numbers × (count ≡ length numbers)

-- the records that were read are known
pub record KnowsReads (log : List (Op ℕ)) (reads : Reads) : Type 0 where
  pub numbers : List ℕ
  pub are : AreGiven log numbers
  pub seen : (n : ℕ) → slice_get reads.seen.items n ≡ Some true → (i : ℕ) × (slice_get numbers i ≡ Some n)
  pub told : (i n : ℕ) → slice_get numbers i ≡ Some n → slice_get reads.seen.items n ≡ Some true
  pub long : reads.count ≡ length numbers

abbrev pub was_read : List Bool → ℕ → Bool
was_read seen number = unwrap_or (slice_get seen number) false

-- some records more, of which none was read
pub record GrowsUnread (old new : List Bool) : Type 0 where
  pub stays : (n : ℕ) (b : Bool) → slice_get old n ≡ Some b → slice_get new n ≡ Some b
  pub from : (n : ℕ) (b : Bool) → slice_get new n ≡ Some b → (slice_get old n ≡ Some b) ⊎ (b ≡ false)
