-- A line feed was found there.
use Rattle.fsr_watch_answers.proofs.FrontLemmas.{first_line}
use Rattle.fsr_watch_answers.proofs.split.split_whole.Goals as goal

pub returns-in-Some : goal.returns-in-Some
returns-in-Some c = first_line c.args.bytes.now c.in-Some.end c.in-Some.ensures
