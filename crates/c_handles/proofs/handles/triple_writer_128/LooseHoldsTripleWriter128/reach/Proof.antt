-- made by c/exports.py
use Rattle.c_handles.proofs.AnyLoose.Reach.{reach_any}
use Rattle.c_handles.proofs.Rows.triple_writer_128.{kind}
use Rattle.c_handles.proofs.handles.triple_writer_128.LooseHoldsTripleWriter128.reach.Statement.{statement}
use Rattle.c_handles.proofs.handles.triple_writer_128.LooseHoldsTripleWriter128.reach.Code as code

pub reach_spec : {M : Type 1} → statement M
reach_spec 𝓤 𝓛 𝓜 𝓡 wired = reach_any kind 𝓛 𝓜 𝓡 (code.unfolded 𝓤 𝓛.H 𝓜 𝓡 wired)
