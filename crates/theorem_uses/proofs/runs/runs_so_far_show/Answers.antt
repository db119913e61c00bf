-- By the operations of its calls.
use Rattle.theorem_uses.proofs.SoFar.{calls_stand_so_far, reads_the_only_so_far, refuses_none_so_far, runs_so_far_show_their_parts}
use Rattle.theorem_uses.proofs.SoFar.{stamps_rise_so_far, unchosen_stands_nowhere}
use Rattle.theorem_uses.proofs.runs.runs_so_far_show.Goals as goal

pub returns-clause-reads : goal.returns-clause-reads
returns-clause-reads g c = reads_the_only_so_far

pub returns-clause-refuses : goal.returns-clause-refuses
returns-clause-refuses g c = refuses_none_so_far

pub returns-clause-rises : goal.returns-clause-rises
returns-clause-rises g c = stamps_rise_so_far

pub returns-clause-stand : goal.returns-clause-stand
returns-clause-stand g c = calls_stand_so_far

pub returns-clause-nowhere : goal.returns-clause-nowhere
returns-clause-nowhere g c = unchosen_stands_nowhere

pub returns-clause-parts : goal.returns-clause-parts
returns-clause-parts g c = runs_so_far_show_their_parts
