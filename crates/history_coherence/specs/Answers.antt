-- What a search for a coherent order answers. Records are numbers, and 0 is the opening. This project's own.
use Rattle.std.specs.Prelude.{ℕ, List}
use Rattle.history_core.specs.declared.history.Op.{Op}
use Rattle.history_core.specs.Searches.{WritesOnce}
use Rattle.history_thinning.specs.Thinnings.{Equal}
use Rattle.history_coherence.specs.declared.coherence.Coherence.{Coherence}
use Rattle.history_coherence.specs.declared.coherence.Coherence.TheVariants.{Coherent, Incoherent}
use Rattle.history_coherence.specs.Coherent.{IsCoherent, IsCoherentOrder}
use Rattle.history_coherence.specs.Incoherent.{IsIncoherence}

-- no write of the log is of the opening, and no two are of one record
abbrev pub AreWrittenOnce : List (Op ℕ) → Type 0
AreWrittenOnce log = (n : ℕ) → WritesOnce Equal 0 log n

-- the answer: a coherent order; or there is none, and a reason why
abbrev pub IsCoherence : List (Op ℕ) → Coherence → Type 0
IsCoherence log (Coherent order) = IsCoherentOrder Equal 0 log order
IsCoherence log (Incoherent reason) = IsIncoherence Equal 0 log reason × ¬ IsCoherent Equal 0 log
