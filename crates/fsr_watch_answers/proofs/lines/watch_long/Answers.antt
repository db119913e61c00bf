-- A line that is too long never goes on.
use Rattle.fsr_watch_answers.proofs.ReplyLemmas.{long_stops, never_goes}
use Rattle.fsr_watch_answers.proofs.lines.watch_long.Goals as goal

pub unreachable-requires : goal.unreachable-requires
unreachable-requires c =
    never_goes c.requires.known.0 c.args.bytes.now c.in-GoesOn.field-0 c.requires.long
    (c.in-GoesOn.ensures.takes c.requires.known.0 c.requires.known.1)

pub returns : goal.returns
returns c = λ seen known. long_stops seen c.args.bytes.now c.in-Stops.reply c.requires.long (c.in-Stops.ensures.takes seen known)
