-- A loose side may cross threads where its side may. Assumes nothing.
use Rattle.std.proofs.Common.{Bool, true, false}
use mir.Raw.{raw}
use base.Shift.{Keyless}
use denote.Memory.{lone}
use denote.RawPtr.{Ptr}
use denote.Struct.Struct.{exits_of}
use denote.Struct.Owning.{shape, fields, to}
use denote.Param.Send.{IsSend, AllSend, owning_send, struct_send, sendable}
use Rattle.std.proofs.Crossing.{frees}
use Rattle.std_alloc.proofs.SendSync.{quiet, lies}
use Rattle.c_handles.specs.Loosely.{heap, loosely}
use Rattle.c_handles.proofs.AnyLoose.{Kind, S, L, owning}

module _ (J : Kind) (side : IsSend (S J)) where
  keyless : (y : Bool) (p : Ptr) (x : J.row.Denot) → Keyless (loosely (S J) y p x)
  keyless true p x = (lies (S J) side p x, frees.frees heap (raw (lone (S J).mir)) p)
  keyless false p x = tt

  pub crosses : IsSend (L J)
  crosses =
      let all : AllSend (fields (owning J)) = (search sendable, tt) in
      owning_send (owning J) all (λ d. keyless (J.full d) (J.at d) (J.side d)) (λ k. quiet (to (owning J)) (exits_of k (fields (owning J)))
      ((struct_send (shape (owning J)) all).leaving k))
