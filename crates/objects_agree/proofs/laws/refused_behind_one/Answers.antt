-- Worked out place by place.
use Rattle.objects_agree.proofs.Instances.{lawful, lawful_history, unlawful}
use Rattle.objects_agree.proofs.laws.refused_behind_one.Goals as goal
use Rattle.objects_agree.proofs.Whole.{there}
use Rattle.objects_agree.specs.Instances.{refused_behind}

pub returns-clause-log : goal.returns-clause-log
returns-clause-log c = lawful

pub returns-clause-history : goal.returns-clause-history
returns-clause-history c = lawful_history

pub returns-clause-none : goal.returns-clause-none
returns-clause-none c order h = unlawful order (there 0 2 refused_behind order h)
