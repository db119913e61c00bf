-- The tasks' floors are known, and then that of all rises.
use Rattle.watch_lines.proofs.WatcherLemmas.{knows_tasks, no_lower, raised_as}
use Rattle.std.proofs.Common.{◌≡◌, ◌≤◌, ℕ, List, ap, sym, subst, ◌∙◌}
use Rattle.watch_lines.specs.Tasks.{floor_for_all, high_with, higher, moment_of}
use Rattle.watch_lines.specs.declared.tasks.Task.{Task}
use Rattle.watch_lines.proofs.watcher.Watcher.raise.Goals as goal

pub rise_if-requires : goal.rise_if-requires
rise_if-requires c = record {
  known = (_, knows_tasks c.requires.0 c.args.self c.raise.new.tasks c.requires.1);
  no_lower = subst (λ (m : ℕ). moment_of c.args.self.high ≤ m) (sym (ap moment_of c.higher-high.ensures))
      (no_lower c.args.self.high c.floor_for_all-all.result c.args.self.lines);
}

-- the floor of all is what the tasks' floors and this one make it
high_is : (c : goal.After-rise_if) →
    c.higher-high.result ≡ high_with c.args.self.tasks.items c.args.self.high c.args.who c.args.at c.args.self.lines
high_is c =
    c.higher-high.ensures
    ∙ ap (λ (m : ℕ). higher c.args.self.high m c.args.self.lines)
    (c.floor_for_all-all.ensures
    ∙ ap (λ (ts : List Task). floor_for_all ts c.args.who c.args.at) (c.as_slice.ensures.value ∙ c.raise.ensures))

pub returns-clause-rises : goal.returns-clause-rises
returns-clause-rises c = λ s k.
    raised_as s c.args.self c.args.who c.args.at c.raise.new.tasks.items c.higher-high.result c.rise_if.result k c.raise.ensures
    (high_is c)
    (c.rise_if.ensures.rises (record s { tasks = c.raise.new.tasks.items }) (knows_tasks s c.args.self c.raise.new.tasks k))

pub returns-clause-forgets : goal.returns-clause-forgets
returns-clause-forgets c = c.rise_if.ensures.forgets
