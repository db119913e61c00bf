-- The moment before is the last by which nothing more begins.
use Rattle.std.proofs.lemmas.Result.{IfOk-weaker}
use Rattle.watch_lines.specs.Steps.{opened}
use Rattle.watch_lines.proofs.WatcherLemmas.{risen_before}
use Rattle.std.proofs.Common.{refl}
use Rattle.watch_lines.proofs.watcher.rise_before.Goals as goal

pub returns-clause-risen : goal.returns-clause-risen
returns-clause-risen c = IfOk-weaker c.rise.result _ _ (λ risen h log is.
    risen_before log c.args.watch c.args.moment _ risen refl c.requires.later c.ranges.moment.fits (h opened log is)) c.rise.ensures.risen
