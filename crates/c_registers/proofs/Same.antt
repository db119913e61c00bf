-- A writing side is what its fields that run are: its facts have one proof each.
use Rattle.std.proofs.Common.{◌≡◌, ap}
use mathlib.Core.HLevel.{Σ_prop_path}
use denote.RattleType.{RattleType}
use Rattle.std.specs.declared.clone.Clone.{Ghosts}
use Rattle.c_registers.specs.contracts.room.Room as rooms
use Rattle.c_registers.specs.contracts.triple.TripleFiller as fillers
use Rattle.c_registers.specs.contracts.triple.TripleWriter as writers
use Rattle.c_registers.specs.declared.triple.TripleWriter.{TripleWriter}

module _ (T : RattleType) (clone : Ghosts T.Denot) where
  pub same_writer : (p q : TripleWriter T.Denot) → p.room ≡ q.room → p.number ≡ q.number → p ≡ q
  same_writer p q room number =
      let filler : RattleType = fillers.the_row T clone in
      let once = writers.the_propositions T.Denot (rooms.the_row filler).coded filler.coded T.coded in
      ap (λ t. record { room = t.0.0; number = t.0.1.0; own = t.1.0; last = t.1.1.0 })
      (Σ_prop_path once {u = ((p.room, (p.number, tt)), (p.own, (p.last, tt)))} {v = ((q.room, (q.number, tt)), (q.own, (q.last, tt)))}
      (λ i. (room i, (number i, tt))))
