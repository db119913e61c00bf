-- made by c/exports.py
use Rattle.c_handles.proofs.AnyLoose.Put.{put_any}
use Rattle.c_handles.proofs.Rows.triple_reader_128.{kind}
use Rattle.c_handles.proofs.handles.triple_reader_128.Loose.put.Statement.{statement}
use Rattle.c_handles.proofs.handles.triple_reader_128.Loose.put.Code as code

pub put_spec : {M : Type 1} → statement M
put_spec 𝓤 𝓛 𝓜 𝓡 wired = put_any kind 𝓛 𝓜 𝓡 (code.unfolded 𝓤 𝓛.H 𝓜 𝓡 wired)
