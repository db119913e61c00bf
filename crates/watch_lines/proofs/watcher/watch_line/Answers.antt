-- The first line is the header, and any other one stands behind others.
use Rattle.std.proofs.Common.{Option, subst, sym}
use Rattle.std.specs.Prelude.{IfSome}
use Rattle.watch_lines.proofs.WatcherLemmas.{takes_behind}
use Rattle.watch_lines.specs.Watchers.{ForgetsAt}
use Rattle.watch_lines.specs.declared.watcher.Watcher.{Watcher}
use Rattle.watch_lines.proofs.watcher.watch_line.Goals as goal

pub returns-in-Some-clause-takes : goal.returns-in-Some-clause-takes
returns-in-Some-clause-takes c = λ seen known.
    takes_behind seen c.args.read c.in-Some.watcher c.args.bytes.now c.step.result c.in-Some.is known c.step.ensures.takes

pub returns-in-Some-clause-forgets : goal.returns-in-Some-clause-forgets
returns-in-Some-clause-forgets c =
    let P : Option Watcher → Type 0 = λ r. IfSome r (λ old. ForgetsAt old c.step.result) in
    subst P (sym c.in-Some.is) c.step.ensures.forgets
