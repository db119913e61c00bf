-- The step that chooses reports the stamp.
use Rattle.std.proofs.Common.{rules, ◌<◌, length, sym}
use Rattle.composed_play.proofs.boards.Telling.{tells_no_stamp, tells_stamp}
use Rattle.matrix_core.proofs.lists.Elements.{get_exists}
use Rattle.composed_play.proofs.board_term.tell_stamps.Goals as goal

pub returns-then-seat-n : goal.returns-then-seat-n
returns-then-seat-n g c =
    let lt : c.args.seat.place < length c.args.stamps.now.items = search rules in
    let was = get_exists c.args.stamps.now.items c.args.seat.place lt in
    sym (tells_stamp c.args.n c.args.seat c.args.line.now c.args.stamps.now.items was.0 c.if-seat-n.true was.1)

pub returns-else-seat-n : goal.returns-else-seat-n
returns-else-seat-n g c = sym (tells_no_stamp c.args.n c.args.seat c.args.line.now c.args.stamps.now.items c.if-seat-n.false)
