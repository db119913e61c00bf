-- made by c/exports.py
use Rattle.c_handles.proofs.AnyLoose.Reach.{reach_any}
use Rattle.c_handles.proofs.Rows.triple_reader_128.{kind}
use Rattle.c_handles.proofs.handles.triple_reader_128.LooseHoldsTripleReader128.reach.Statement.{statement}
use Rattle.c_handles.proofs.handles.triple_reader_128.LooseHoldsTripleReader128.reach.Code as code

pub reach_spec : {M : Type 1} → statement M
reach_spec 𝓤 𝓛 𝓜 𝓡 wired = reach_any kind 𝓛 𝓜 𝓡 (code.unfolded 𝓤 𝓛.H 𝓜 𝓡 wired)
