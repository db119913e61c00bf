-- What a search for an order of a log answers (this project's own, over what the search promises of any history). Two
-- records are the same where they are equal.
use Rattle.std.specs.Prelude.{◌≡◌}
use Rattle.program_runs.specs.declared.fault.Fault.{Fault}
use Rattle.program_runs.specs.declared.fault.Fault.TheVariants as fault
use Rattle.program_runs.specs.declared.fault.HistoryFault.TheVariants as history
use Rattle.history_core.specs.declared.band.Band.{Band}
use Rattle.history_core.specs.declared.history.History.{History}
use Rattle.history_core.specs.Searches.{IsAnswered, IsFault}
use Rattle.history_core.specs.declared.reason.Search.{Search}
use Rattle.history_core.specs.declared.reason.SearchError.{SearchError}
use Rattle.history_core.specs.declared.reason.SearchError.TheVariants.{NoMemory, Terms, Backwards}
use Rattle.history_core.specs.declared.reason.SearchError.TheVariants.{WritesOpening, WritesTwice}

-- a lawful order of the log, or that there is none, with a reason
abbrev pub IsLogSearch : History Band → Search → Type 0
IsLogSearch log search = IsAnswered (λ x y. x ≡ y) log.opening log.terms log.ops search

-- what stands in the way of a search
abbrev pub StandsInTheWay : History Band → SearchError → Type 0
StandsInTheWay log error = IsFault (λ x y. x ≡ y) log.opening log.terms log.ops error

-- the fault of a log: the first write whose record an earlier write has, or is the opening; or want of memory
abbrev pub IsLogFault : History Band → Fault → Type 0
IsLogFault log (fault.Document refusal) = ⊥
IsLogFault log (fault.History (history.WritesTwice first second)) = StandsInTheWay log (WritesTwice first second)
IsLogFault log (fault.History (history.WritesOpening place)) = StandsInTheWay log (WritesOpening place)
IsLogFault log (fault.Schedule position) = ⊥
IsLogFault log (fault.Lines why) = ⊥
IsLogFault log fault.NoMemory = Unit {0}
IsLogFault log fault.NoThread = ⊥
IsLogFault log (fault.Undecided line) = ⊥

-- a log has one term, and its operations run forwards
abbrev pub IsOfLog : SearchError → Type 0
IsOfLog NoMemory = Unit {0}
IsOfLog Terms = ⊥
IsOfLog (Backwards place) = ⊥
IsOfLog (WritesOpening place) = Unit {0}
IsOfLog (WritesTwice first second) = Unit {0}

abbrev pub fault_of : SearchError → Fault
fault_of (WritesTwice first second) = fault.History (history.WritesTwice first second)
fault_of (WritesOpening place) = fault.History (history.WritesOpening place)
fault_of other = fault.NoMemory
