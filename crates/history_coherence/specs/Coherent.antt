-- Coherent logs: of one register some order of the operations keeps each task's own order, and each read has the latest
-- record. For one register that is sequential consistency, of L. Lamport, How to Make a Multiprocessor Computer That
-- Correctly Executes Multiprocess Programs, 1979; no moment counts. A refused write is taken as a read of its record.
use Rattle.std.specs.Prelude.{ℕ, List}
use Rattle.history_core.specs.declared.history.Op.{Op}
use Rattle.history_core.specs.Orders.{IsListing, ReadsLatest}
use Rattle.history_thinning.specs.Tasks.{KeepsTasks}

module _ {R : Type 0} (Same : R → R → Type 0) (opening : R) (log : List (Op R)) where
  -- each operation is listed as often as it may be, each task's in the order in which the log has them, and each read
  -- has the latest record
  pub record IsCoherentOrder (order : List ℕ) : Type 0 where
    pub listing : IsListing log order
    pub tasks : KeepsTasks log order
    pub reading : ReadsLatest Same opening log order

  abbrev pub IsCoherent : Type 0
  IsCoherent = (order : List ℕ) × IsCoherentOrder order
