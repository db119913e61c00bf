-- Small logs, worked. Records are numbers, and 0 is the opening. This project's own.
use Rattle.std.specs.Prelude.{ℕ, List, [], ◌∷◌, Some}
use Rattle.history_core.specs.declared.history.Op.{Op}
use Rattle.history_core.specs.declared.history.Kind.{Kind}
use Rattle.history_core.specs.declared.history.Kind.TheVariants.{Write, Read}
use Rattle.history_coherence.specs.declared.coherence.Link.{Link}

-- a finished operation of a task, from one moment to another, with its record
abbrev pub op : ℕ → Kind → ℕ → ℕ → ℕ → Op ℕ
op who kind starts ends item =
    record { who = who; kind = kind; starts = starts; ends = Some ends; item = Some item }

abbrev pub link : ℕ → ℕ → Link
link earlier later = record { earlier = earlier; later = later }

-- task 0 writes 1, and after it task 1 reads the opening
abbrev pub stale_log : List (Op ℕ)
stale_log = op 0 Write 1 2 1 ∷ op 1 Read 3 4 0 ∷ []

-- tasks 0 and 1 write 1 and 2; task 2 reads 1 and then 2, and task 3 reads 2 and then 1
abbrev pub crossed_log : List (Op ℕ)
crossed_log = op 0 Write 1 2 1 ∷ op 1 Write 1 2 2 ∷ op 2 Read 3 4 1 ∷ op 2 Read 5 6 2
    ∷ op 3 Read 3 4 2 ∷ op 3 Read 5 6 1 ∷ []

-- task 0 writes 1; task 1 reads it, and then the opening
abbrev pub again_log : List (Op ℕ)
again_log = op 0 Write 1 2 1 ∷ op 1 Read 3 4 1 ∷ op 1 Read 5 6 0 ∷ []

-- a task reads 1 and then writes it
abbrev pub ahead_log : List (Op ℕ)
ahead_log = op 0 Read 1 2 1 ∷ op 0 Write 3 4 1 ∷ []
