-- What shows that a log whose records repeat, which is lost at the end of an operation, has no lawful order (this
-- project's own).
use Rattle.std.specs.Prelude.{ℕ, List, None, Some}
use Rattle.object_core.specs.declared.operation.Operation.{Operation}
use Rattle.object_registers.specs.declared.exchanging.Exchange.{Exchange}
use Rattle.object_registers.specs.declared.exchanging.Exchanging.{Exchanging}
use Rattle.object_sources.specs.Sources.{IsUnsourced}
use Rattle.object_window.specs.Together.{IsLostTogether}
use Rattle.fsr_repeats_answers.specs.declared.evidence.Evidence.{Evidence}
use Rattle.fsr_repeats_answers.specs.declared.evidence.Evidence.TheVariants.{NoSource, Together, Nothing}

-- the opening is the record 0
abbrev pub opened : Exchanging
opened = record { held = 0 }

-- for which reason the operation at this place can't have found its record; else a window in which the log is lost, if
-- one was found
abbrev pub IsEvidence : List (Operation Exchange) → ℕ → Evidence → Type 0
IsEvidence log place (NoSource why) = IsUnsourced opened.held log place (Some why)
IsEvidence log place (Together window) = IsUnsourced opened.held log place None × IsLostTogether log place window
IsEvidence log place Nothing = IsUnsourced opened.held log place None
