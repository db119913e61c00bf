-- The last line goes on, and then nothing more comes; or it stops.
use Rattle.std.proofs.Common.{rules, ◌≢◌, [], Some}
use Rattle.fsr_watch_answers.proofs.ReplyLemmas.{last_goes_on, last_stops}
use Rattle.fsr_watch_answers.proofs.lines.watch_last.Goals as goal

pub watch_end-requires-in-GoesOn : goal.watch_end-requires-in-GoesOn
watch_end-requires-in-GoesOn c =
    let takes = c.in-GoesOn.ensures.takes c.requires.0 c.requires.1 in (Some takes.0, takes.2)

pub returns-in-GoesOn : goal.returns-in-GoesOn
returns-in-GoesOn c = λ seen known.
    let takes = c.in-GoesOn.ensures.takes seen known in
    let some : c.args.bytes.now ≢ [] = search rules in
    last_goes_on seen c.args.bytes.now c.in-GoesOn.watcher c.watch_end-in-GoesOn.result some takes
    (c.watch_end-in-GoesOn.ensures (Some takes.0) takes.2)

pub returns-in-Stops : goal.returns-in-Stops
returns-in-Stops c = λ seen known.
    let some : c.args.bytes.now ≢ [] = search rules in
    last_stops seen c.args.bytes.now c.in-Stops.reply some (c.in-Stops.ensures.takes seen known)
