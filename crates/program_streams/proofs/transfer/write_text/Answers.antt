-- A piece goes out behind the front that went out before it, so the two are a longer front of the text.
use Rattle.std.proofs.Common.{rules}
use Rattle.program_streams.proofs.TransferLemmas.{puts_piece}
use Rattle.program_streams.proofs.transfer.write_text.Goals as goal

pub pieces-preserved : goal.pieces-preserved
pieces-preserved g c =
    let sent = puts_piece _ _ _ c.args.text.now c.pieces.done c.in-Ok.n c.pieces.invariant.0 c.in-Ok.ensures.bytes in
    (sent, search rules, search rules)
