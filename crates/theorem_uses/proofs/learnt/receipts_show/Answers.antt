-- Each is a part of the receipt.
use Rattle.theorem_uses.proofs.Learning.{duplicates, learnt, receipts, told}
use Rattle.theorem_uses.proofs.learnt.receipts_show.Goals as goal

pub returns-clause-receipts : goal.returns-clause-receipts
returns-clause-receipts g c = receipts g.F.Family

pub returns-clause-told : goal.returns-clause-told
returns-clause-told g c = told g.F.Family

pub returns-clause-duplicates : goal.returns-clause-duplicates
returns-clause-duplicates g c = duplicates g.F.Family

pub returns-clause-learnt : goal.returns-clause-learnt
returns-clause-learnt g c = learnt g.F.Family
