-- Each is a part of its definition.
use Rattle.theorem_uses.proofs.Dealing.{boards, opens, reads_from, writes_to}
use Rattle.theorem_uses.proofs.dealt.new_boards_show.Goals as goal

pub returns-clause-boards : goal.returns-clause-boards
returns-clause-boards g c = boards g.F.Family g.V.RecordLaw.obeys

pub returns-clause-opens : goal.returns-clause-opens
returns-clause-opens g c = opens g.F.Family g.V.RecordLaw.obeys

pub returns-clause-writes : goal.returns-clause-writes
returns-clause-writes g c = writes_to g.F.Family g.V.RecordLaw.obeys

pub returns-clause-reads : goal.returns-clause-reads
returns-clause-reads g c = reads_from g.F.Family g.V.RecordLaw.obeys
