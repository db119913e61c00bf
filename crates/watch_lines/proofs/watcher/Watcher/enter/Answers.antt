-- Each kind of line is taken by its own call.
use Rattle.std.proofs.Common.{ap, sym, subst, ◌∙◌, Ok}
use Rattle.watch_lines.specs.WatchEntries.{watched_seen}
use Rattle.watch_lines.specs.Watchers.{TakesEntry}
use Rattle.watch_lines.specs.declared.line.WatchLine.{WatchLine}
use Rattle.watch_lines.specs.declared.line.WatchLine.TheVariants.{Exchange}
use Rattle.watch_lines.proofs.watcher.Watcher.enter.Goals as goal

pub returns-in-Exchange-default-Operation-clause-takes : goal.returns-in-Exchange-default-Operation-clause-takes
returns-in-Exchange-default-Operation-clause-takes c = λ s k before next.
    let P : WatchLine → Type 0 = λ r. TakesEntry s (Ok (watched_seen r)) c.take.result in
    let arm = c.in-Exchange-default-Operation in
    subst P (sym (arm.is ∙ ap (Exchange arm.who) arm.field-1-is)) (c.take.ensures.takes s k before next)

pub returns-in-Exchange-default-Done-clause-takes : goal.returns-in-Exchange-default-Done-clause-takes
returns-in-Exchange-default-Done-clause-takes c = λ s k before next.
    let P : WatchLine → Type 0 = λ r. TakesEntry s (Ok (watched_seen r)) c.end_at.result in
    subst P (sym (c.in-Exchange-default-Done.is ∙ ap (Exchange c.in-Exchange-default-Done.field-0) c.in-Exchange-default-Done.field-1-is))
    (c.end_at.ensures.takes s c.in-Exchange-default-Done.field-0 k before next)

pub returns-in-Floor-clause-takes : goal.returns-in-Floor-clause-takes
returns-in-Floor-clause-takes c = λ s k before next.
    let P : WatchLine → Type 0 = λ r. TakesEntry s (Ok (watched_seen r)) c.rise_to.result in
    subst P (sym c.in-Floor.is) (c.rise_to.ensures.takes s k before next)
