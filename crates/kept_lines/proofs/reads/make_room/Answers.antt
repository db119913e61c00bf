-- Each record added is one more, which was not read.
use Rattle.kept_lines.proofs.ReadsLemmas.{grows_pushed, room_more}
use Rattle.kept_lines.proofs.reads.make_room.Goals as goal

pub loop-preserved : goal.loop-preserved
loop-preserved c = room_more c.args.seen.now.items c.loop.seen.items c.push.new.self.items c.loop.counter c.loop.invariant
    c.in_ok-push.ensures.items

pub returns-clause-grown : goal.returns-clause-grown
returns-clause-grown c = grows_pushed c.args.seen.now.items c.loop.seen.items c.push-2.new.self.items c.loop.invariant.0
    c.in_ok-push-2.ensures.items
