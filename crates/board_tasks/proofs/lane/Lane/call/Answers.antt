-- The next wish of the script is the one at the log's length, so the log tells of one call more.
use Rattle.std.proofs.Common.{rules, ◌≡◌, length}
use Rattle.board_tasks.specs.Logs.{Obeys}
use Rattle.board_tasks.specs.Tasks.{entry}
use Rattle.board_tasks.proofs.LogLaws.{log_called, obeys_at, wish_at}
use Rattle.board_tasks.proofs.lane.Lane.call.Goals as goal

pub answer-reply-requires-clause-lawful : goal.answer-reply-requires-clause-lawful
answer-reply-requires-clause-lawful g c =
    let n : c.len.result ≡ length c.args.self.now.log.items = search rules in
    obeys_at (Obeys g.V.RecordLaw.obeys) c.args.self.now.script.items c.args.self.now.log.items c.len.result c.index-wish.result.now n
    c.requires.more c.index-wish.ensures c.requires.lane.lawful

pub returns-clause-lane : goal.returns-clause-lane
returns-clause-lane g c =
    let script = c.args.self.now.script.items in
    let log = c.args.self.now.log.items in
    let n : c.len.result ≡ length log = search rules in
    record {
      room = rw c.push_reserved.ensures.capacity c.requires.lane.room;
      lawful = c.requires.lane.lawful;
      kept = rw c.push_reserved.ensures.items
          (log_called g.F.Family g.V.RecordLaw.obeys c.args.board.now script log c.args.self.now.pass c.answer-reply.new.pass
          (entry c.index-wish.result.now c.answer-reply.result) c.requires.lane.kept
          (wish_at script log c.len.result c.index-wish.result.now n c.requires.more c.index-wish.ensures)
          c.answer-reply.ensures.entry);
    }
