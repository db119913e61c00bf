-- The gate of the race permits every call.
use Rattle.std.proofs.Common.{rules}
use Rattle.fsr_answers.proofs.RaceLemmas.{open_race}
use Rattle.fsr_answers.proofs.races.race_to_the_end.Goals as goal

pub returns : goal.returns
returns g c = (
  c.in_ok-report.report,
  open_race _ _ _ c.args.document.opening c.args.document.limit c.args.document.scripts c.in_ok-report.report c.in_ok-report.ensures.report,
  search rules,
)
