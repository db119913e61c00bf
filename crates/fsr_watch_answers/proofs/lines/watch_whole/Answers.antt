-- A line more was watched, or it stops.
use Rattle.std.proofs.Common.{◌++◌, ℕ, List, subst}
use Rattle.text_lines.specs.Splits.{lines_of}
use Rattle.watch_lines.specs.Replies.{StopAt, TellsIf}
use Rattle.fsr_watch_answers.proofs.ReplyLemmas.{one_stops, one_watched}
use Rattle.fsr_watch_answers.proofs.lines.watch_whole.Goals as goal

pub returns-in-Stops : goal.returns-in-Stops
returns-in-Stops c = λ seen known.
    let to = c.lines.invariant seen known in
    let P : List ℕ → Type 0 = λ l. TellsIf (λ r. (x : List ℕ) → StopAt seen (lines_of (l ++ x)) r) c.in-Stops.reply in
    subst P c.as_slice-rest.ensures.value
    (one_stops seen c.as_slice-rest.result.now c.lines.rest.now c.in-Some.line.now c.in-Some.behind.now c.lines.read
    c.in-Stops.reply to c.in-Some.ensures (c.in-Stops.ensures.takes to.after to.knows))

pub lines-preserved : goal.lines-preserved
lines-preserved c = λ seen known.
    let to = c.lines.invariant seen known in
    one_watched seen c.as_slice-rest.result.now c.lines.rest.now c.in-Some.line.now c.in-Some.behind.now c.lines.read
    c.in-GoesOn.watcher to c.in-Some.ensures (c.in-GoesOn.ensures.takes to.after to.knows)
