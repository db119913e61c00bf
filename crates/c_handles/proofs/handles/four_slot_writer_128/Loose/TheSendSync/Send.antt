-- made by c/exports.py
use denote.Param.Send.{IsSend}
use Rattle.c_handles.proofs.AnyLoose.Send.{crosses}
use Rattle.c_handles.proofs.Rows.four_slot_writer_128.{kind}
use Rattle.c_handles.proofs.side.FourSlotWriter128.TheSendSync.{the_send as side}
use Rattle.c_handles.specs.contracts.handles.four_slot_writer_128.Loose.{the_row}

pub send : IsSend the_row
send = crosses kind side
