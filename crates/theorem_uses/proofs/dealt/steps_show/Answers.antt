-- Each is a part of its definition.
use Rattle.theorem_uses.proofs.Dealing.{all_rows, known_times, rise, steps}
use Rattle.theorem_uses.proofs.dealt.steps_show.Goals as goal

pub returns-clause-steps : goal.returns-clause-steps
returns-clause-steps c = steps

pub returns-clause-rise : goal.returns-clause-rise
returns-clause-rise c = rise

pub returns-clause-rows : goal.returns-clause-rows
returns-clause-rows c = all_rows

pub returns-clause-times : goal.returns-clause-times
returns-clause-times c = known_times
