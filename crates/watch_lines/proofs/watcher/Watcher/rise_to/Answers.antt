-- The floor is counted, and raises those that it is of.
use Rattle.watch_lines.proofs.WatcherLemmas.{floored, knows_any, knows_floored, refuses_floor, takes_floor}
use Rattle.std.proofs.Common.{◌≡◌, ap, sym, subst, ◌∙◌, List, true, Err, Ok}
use Rattle.watch_lines.specs.Tasks.{is_named}
use Rattle.watch_lines.specs.WatchEntries.{floor}
use Rattle.watch_lines.specs.Watchers.{TakesEntry}
use Rattle.watch_lines.specs.declared.tasks.Task.{Task}
use Rattle.watch_lines.specs.declared.told.WatchFault.{WatchFault}
use Rattle.watch_lines.specs.declared.watcher.Step.TheVariants.{Stops}
use Rattle.watch_lines.proofs.watcher.Watcher.rise_to.Goals as goal

pub raise-requires : goal.raise-requires
raise-requires c = (_, knows_any c.requires.0 c.args.self c.args.line c.in-Some.floors c.requires.1 c.in-Some.ensures.1)

pub returns-clause-takes : goal.returns-clause-takes
returns-clause-takes c = λ s k before next.
    let named : is_named s.tasks c.args.who ≡ true =
    ap (λ (ts : List Task). is_named ts c.args.who) (sym k.tasks ∙ sym c.as_slice.ensures.value) ∙ sym c.if-not-is_named.ensures in
    takes_floor s c.args.who c.args.at c.raise.result before named
    (c.raise.ensures.rises (floored s) (knows_floored s c.args.self c.args.line c.in-Some.floors k next c.in-Some.ensures.1))

pub returns-then-not-is_named-clause-takes : goal.returns-then-not-is_named-clause-takes
returns-then-not-is_named-clause-takes c = λ s k before next.
    let P : WatchFault → Type 0 = λ f. TakesEntry s (Ok (floor c.args.who c.args.at)) (Stops (Err f)) in
    subst P (sym c.refusal_at.ensures)
    (refuses_floor s c.args.self c.args.who c.args.at c.args.line k before next
    (ap (λ (ts : List Task). is_named ts c.args.who) (sym c.as_slice.ensures.value) ∙ sym c.if-not-is_named.ensures))
