-- The operation stands behind the others, and its end may be a floor.
use Rattle.std.proofs.Common.{inr}
use Rattle.watch_lines.proofs.WatcherLemmas.{forgets_more}
use Rattle.watch_lines.proofs.watcher.Watcher.put.Goals as goal

pub returns-in-Ok-clause-takes : goal.returns-in-Ok-clause-takes
returns-in-Ok-clause-takes c = λ s k next.
    let pushed = c.in-Ok.ensures.pushed s k next in inr (pushed.0, pushed.1, c.raise_by.ensures.rises pushed.0 pushed.2)

pub returns-in-Ok-clause-forgets : goal.returns-in-Ok-clause-forgets
returns-in-Ok-clause-forgets c =
    forgets_more c.args.self c.push.new.self c.raise_by.result c.in-Ok.ensures.high c.in-Ok.ensures.kept c.raise_by.ensures.forgets
