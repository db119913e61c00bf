-- The family gives one schedule of all steps and atomic registers: with the calls of the passes that is a run.
use Rattle.std.proofs.Common.{arith, ◌≡◌, length}
use Rattle.board_live.proofs.Whole.{all_atomic, all_registers, all_seats, room_for_all}
use Rattle.board_live.proofs.board.Board.finish.Goals as goal

pub seats_of-requires-clause-room : goal.seats_of-requires-clause-room
seats_of-requires-clause-room g c = room_for_all g.F.Family g.V.RecordLaw.obeys c.args.self c.args.passes.items c.requires

pub finish-requires : goal.finish-requires
finish-requires g c =
    let x = all_seats g.F.Family g.V.RecordLaw.obeys c.args.self c.args.passes.items c.requires c.seats_of.result.items
    c.seats_of.ensures in
    let n : length c.seats_of.result.items ≡ g.F.Family.processes c.args.self.family = x.0 in
    (omega arith, x.1)

pub returns-clause-atomic : goal.returns-clause-atomic
returns-clause-atomic g c = all_atomic g.F.Family g.V.RecordLaw.obeys c.args.self c.args.passes.items c.requires c.seats_of.result.items
    c.seats_of.ensures c.greatest_own-last.result c.greatest_own-last.ensures c.finish.ensures.scheduled c.finish.ensures.atomic
    c.finish.ensures.finds

pub returns-clause-registers : goal.returns-clause-registers
returns-clause-registers g c =
    all_registers g.F.Family g.V.RecordLaw.obeys c.args.self c.args.passes.items c.requires c.seats_of.result.items
    c.seats_of.ensures c.finish.ensures.atomic
