-- What is told of the whole log.
use Rattle.watch_lines.proofs.WatcherLemmas.{ends_beyond, ends_lawful, ends_lost}
use Rattle.std.proofs.Common.{ap, subst, ◌∙◌}
use Rattle.std.specs.Prelude.{is_some}
use Rattle.object_watch.specs.Watches.{IsVerdictOnAll}
use Rattle.object_watch.specs.declared.watch.Ended.{Ended}
use Rattle.watch_lines.specs.Lined.{lined_after}
use Rattle.watch_lines.specs.Namings.{log_by}
use Rattle.watch_lines.specs.Steps.{opened}
use Rattle.watch_lines.specs.declared.lined.Lined.{Lined}
use Rattle.watch_lines.proofs.watcher.Watcher.end.Goals as goal

pub returns-in-Ok-Lawful : goal.returns-in-Ok-Lawful
returns-in-Ok-Lawful c = λ s k.
    let P : Ended Lined → Type 0 = λ e. IsVerdictOnAll lined_after opened (log_by k.follows.naming.to s.log) c.args.self.watch e in
    let h = ends_lawful s c.args.self k
    (subst P c.in-Ok-Lawful.field-0-is (c.in-Ok-Lawful.ensures opened (log_by k.follows.naming.to s.log) k.follows.is)) in
    (h.0, h.1, c.is_some.ensures ∙ ap is_some k.ended)

pub returns-in-Ok-Lost : goal.returns-in-Ok-Lost
returns-in-Ok-Lost c = λ s k.
    let P : Ended Lined → Type 0 = λ e. IsVerdictOnAll lined_after opened (log_by k.follows.naming.to s.log) c.args.self.watch e in
    ends_lost s c.args.self c.in-Ok-Lost.at c.in-Ok-Lost.op k
    (subst P c.in-Ok-Lost.field-0-is (c.in-Ok-Lost.ensures opened (log_by k.follows.naming.to s.log) k.follows.is))

pub returns-in-Ok-TooMany : goal.returns-in-Ok-TooMany
returns-in-Ok-TooMany c = λ s k other.
    let P : Ended Lined → Type 0 = λ e. IsVerdictOnAll lined_after opened (log_by k.follows.naming.to s.log) c.args.self.watch e in
    ends_beyond s c.args.self c.in-Ok-TooMany.field-0-0 k
    (subst P c.in-Ok-TooMany.field-0-is (c.in-Ok-TooMany.ensures opened (log_by k.follows.naming.to s.log) k.follows.is))
