-- A line behind the end.
use Rattle.std.proofs.Common.{ap, sym, ◌∙◌, ◌+◌, ℕ}
use Rattle.watch_lines.specs.WatchEntries.{watch_entry_of}
use Rattle.watch_lines.proofs.watcher.Watcher.step.Goals as goal

pub returns-in-Some-ended-clause-takes : goal.returns-in-Some-ended-clause-takes
returns-in-Some-ended-clause-takes c = λ s k.
    c.behind_end.ensures.takes s (watch_entry_of c.args.bytes.now) k (sym k.ended ∙ c.in-Some-ended.is)
    (c.in-Some.ensures.1 ∙ ap (λ (n : ℕ). n + 1) k.lines) c.read_watched-read.ensures.said
