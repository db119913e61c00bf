-- made by c/exports.py
use Rattle.c_handles.proofs.AnyLoose.Take.{take_any}
use Rattle.c_handles.proofs.Rows.four_slot_writer_128.{kind}
use Rattle.c_handles.proofs.handles.four_slot_writer_128.Loose.take.Statement.{statement}
use Rattle.c_handles.proofs.handles.four_slot_writer_128.Loose.take.Code as code

pub take_spec : {M : Type 1} → statement M
take_spec 𝓤 𝓛 𝓜 𝓡 wired = take_any kind 𝓛 𝓜 𝓡 (code.unfolded 𝓤 𝓛.H 𝓜 𝓡 wired)
