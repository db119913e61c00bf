-- The floor rises, or the log is lost.
use Rattle.std.proofs.Common.{subst}
use Rattle.object_watch.specs.Watches.{IsLedToOpen}
use Rattle.watch_lines.specs.Lined.{lined_after}
use Rattle.watch_lines.specs.Namings.{log_by}
use Rattle.watch_lines.proofs.WatcherLemmas.{risen_same, rises_beyond, rises_less, rises_lost, rises_open}
use Rattle.watch_lines.proofs.watcher.Watcher.rise.Goals as goal

pub returns-in-Ok-Open-clause-rises : goal.returns-in-Ok-Open-clause-rises
returns-in-Ok-Open-clause-rises c = λ s k.
    let open_now = rises_open s c.args.self c.in-Ok-Open.watch c.args.high k
    (subst (IsLedToOpen lined_after c.args.self.watch.held.items) c.in-Ok-Open.field-0-is c.in-Ok-Open.ensures.held)
    (risen_same (log_by k.follows.naming.to s.log) c.args.self.watch.moment c.moment_of.result _ c.in-Ok-Open.field-0 _
    c.moment_of.ensures c.in-Ok-Open.field-0-is (c.in-Ok-Open.ensures.risen (log_by k.follows.naming.to s.log) k.follows.is)) in
    rises_less s c.args.high c.forget.result open_now.1 (c.forget.ensures.knows (record s { high = c.args.high }) open_now.0)

pub returns-in-Ok-Lost-clause-rises : goal.returns-in-Ok-Lost-clause-rises
returns-in-Ok-Lost-clause-rises c = λ s k. rises_lost s c.args.self c.args.high c.in-Ok-Lost.at c.in-Ok-Lost.op k
    (risen_same (log_by k.follows.naming.to s.log) c.args.self.watch.moment c.moment_of.result _ c.in-Ok-Lost.field-0 _
    c.moment_of.ensures c.in-Ok-Lost.field-0-is (c.in-Ok-Lost.ensures.risen (log_by k.follows.naming.to s.log) k.follows.is))

pub returns-in-Ok-TooMany-clause-rises : goal.returns-in-Ok-TooMany-clause-rises
returns-in-Ok-TooMany-clause-rises c = λ s k. rises_beyond s c.args.self c.args.high c.in-Ok-TooMany.field-0-0 k
    (risen_same (log_by k.follows.naming.to s.log) c.args.self.watch.moment c.moment_of.result _ c.in-Ok-TooMany.field-0 _
    c.moment_of.ensures c.in-Ok-TooMany.field-0-is (c.in-Ok-TooMany.ensures.risen (log_by k.follows.naming.to s.log) k.follows.is))
