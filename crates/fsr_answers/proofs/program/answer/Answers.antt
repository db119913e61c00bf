-- Looked for at once, so that another command's answer is refused at once.
use Rattle.std.proofs.Common.{rules}
use Rattle.fsr_answers.proofs.program.answer.Goals as goal

pub returns-in-Order : goal.returns-in-Order
returns-in-Order g c = search rules

pub returns-in-Play : goal.returns-in-Play
returns-in-Play g c = search rules
