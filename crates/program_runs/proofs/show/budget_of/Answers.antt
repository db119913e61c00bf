-- What `parse` reads is the number, and what it doesn't read is none.
use Rattle.std.proofs.Common.{◌∙◌}
use Rattle.program_runs.proofs.BudgetLemmas.{named, unnamed}
use Rattle.program_runs.proofs.show.budget_of.Goals as goal

pub returns-in-Ok : goal.returns-in-Ok
returns-in-Ok c =
    let read = c.in-Ok.ensures.value.0 in
    c.in_range.ensures ∙ named c.args.word.now c.in-Ok.number read.0.0 read.1

pub returns-in-Err : goal.returns-in-Err
returns-in-Err c = unnamed c.args.word.now c.in-Err.ensures.value.0
