-- What is shown in the play is what is shown of the trace.
use Rattle.std.proofs.Common.{◌∙◌, ap}
use Rattle.cell_steps.specs.inner.Runs.{shown_in}
use Rattle.cell_steps.proofs.SeenLemmas.{shown_after}
use Rattle.cell_steps.proofs.export.nidzaru_cell_after.Goals as goal

pub returns : goal.returns
returns c = c.show.ensures ∙ ap shown_in c.play.ensures ∙ shown_after c.args.steps.now
