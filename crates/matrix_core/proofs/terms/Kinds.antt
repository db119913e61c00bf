-- The kind that an operation has once it has chosen, by what it saw and by what it answers.
use Rattle.std.specs.Prelude.{ℕ, if◌then◌else◌, nat_lt, Option, None, Some}
use Rattle.history_core.specs.declared.history.Kind.{Kind}
use Rattle.history_core.specs.declared.history.Kind.TheVariants.{Write as WriteKind, Read as ReadKind, Refused as RefusedKind}
use Rattle.history_core.specs.declared.wish.Wish.{Wish}
use Rattle.history_core.specs.declared.wish.Wish.TheVariants.{Write, Read}
use Rattle.matrix_core.specs.declared.stamp.Stamped.{Stamped}
use Rattle.matrix_core.specs.declared.progress.Outcome.{Outcome}
use Rattle.matrix_core.specs.declared.progress.Outcome.TheVariants.{Written, Seen, Ended}
use Rattle.matrix_core.specs.declared.progress.Progress.{Progress}
use Rattle.matrix_core.specs.Lines.{first_record}

module _ {R : Type 0} where
  -- the kind of an operation that saw this record: a write is refused at the limit
  abbrev pub kind_chosen : ℕ → Wish R → Stamped R → Kind
  kind_chosen limit Read seen = ReadKind
  kind_chosen limit (Write item) seen = if nat_lt seen.stamp.tag limit then WriteKind else RefusedKind

  -- the kind of an operation with this outcome
  abbrev pub kind_of : Outcome R → Kind
  kind_of (Written stamp) = WriteKind
  kind_of (Seen answer) = ReadKind
  kind_of (Ended last) = RefusedKind

  -- what a process is to answer, by its progress
  abbrev pub outcome_or : R → Option (Progress R) → Outcome R
  outcome_or opening None = Seen (first_record opening)
  outcome_or opening (Some line) = line.outcome
