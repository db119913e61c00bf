-- What is held stays kept, and of many no others do.
use Rattle.std.proofs.Common.{List, subst}
use Rattle.object_watch.specs.declared.remainder.Remainder.{Remainder}
use Rattle.watch_lines.specs.Kept.{Forgets}
use Rattle.watch_lines.specs.declared.lined.Lined.{Lined}
use Rattle.watch_lines.specs.declared.lined.LinedRegister.{LinedRegister}
use Rattle.watch_lines.proofs.WatcherLemmas.{knows_less}
use Rattle.watch_lines.proofs.watcher.Watcher.forget.Goals as goal

pub returns-in-Ok-clause-knows : goal.returns-in-Ok-clause-knows
returns-in-Ok-clause-knows c = λ s k.
    let P : List (Remainder LinedRegister Lined) → Type 0 = λ z. Forgets z c.args.self.records c.forget.new.self in
    knows_less s c.args.self c.forget.new.self k (subst P c.as_slice.ensures.value c.in-Ok.ensures)

pub returns-in-Ok-clause-forgets : goal.returns-in-Ok-clause-forgets
returns-in-Ok-clause-forgets c =
    let P : List (Remainder LinedRegister Lined) → Type 0 = λ z. Forgets z c.args.self.records c.forget.new.self in
    (subst P c.as_slice.ensures.value c.in-Ok.ensures).few
