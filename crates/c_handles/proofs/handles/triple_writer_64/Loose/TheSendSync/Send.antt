-- made by c/exports.py
use denote.Param.Send.{IsSend}
use Rattle.c_handles.proofs.AnyLoose.Send.{crosses}
use Rattle.c_handles.proofs.Rows.triple_writer_64.{kind}
use Rattle.c_handles.proofs.side.TripleWriter64.TheSendSync.{the_send as side}
use Rattle.c_handles.specs.contracts.handles.triple_writer_64.Loose.{the_row}

pub send : IsSend the_row
send = crosses kind side
