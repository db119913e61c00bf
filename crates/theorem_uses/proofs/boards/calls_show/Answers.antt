-- Each is a part of the call.
use Rattle.theorem_uses.proofs.Calls.{forgets_none, heeds, sees, shows, takes_time}
use Rattle.theorem_uses.proofs.boards.calls_show.Goals as goal

pub returns-clause-sees : goal.returns-clause-sees
returns-clause-sees g c = λ kind. sees g.F.Family g.V.RecordLaw.obeys c.args.board.now kind c.args.old.now c.args.new.now c.args.seen.now

pub returns-clause-heeds : goal.returns-clause-heeds
returns-clause-heeds g c = λ kind. heeds g.F.Family g.V.RecordLaw.obeys c.args.board.now kind c.args.old.now c.args.new.now c.args.seen.now

pub returns-clause-shows : goal.returns-clause-shows
returns-clause-shows g c = λ kind. shows g.F.Family g.V.RecordLaw.obeys c.args.board.now kind c.args.old.now c.args.new.now c.args.seen.now

pub returns-clause-later : goal.returns-clause-later
returns-clause-later g c =
    λ kind. takes_time g.F.Family g.V.RecordLaw.obeys c.args.board.now kind c.args.old.now c.args.new.now c.args.seen.now

pub returns-clause-receipts : goal.returns-clause-receipts
returns-clause-receipts g c =
    λ kind. forgets_none g.F.Family g.V.RecordLaw.obeys c.args.board.now kind c.args.old.now c.args.new.now c.args.seen.now
