-- The end of an operation is a floor, or none.
use Rattle.std.proofs.Common.{◌≡◌, ℕ, List, Option, Some, None, ap, refl, sym, subst, ◌∙◌, arith}
use Rattle.watch_lines.specs.Seen.{raised_by}
use Rattle.watch_lines.specs.Tasks.{own_floor}
use Rattle.watch_lines.specs.Watchers.{RisesAs}
use Rattle.watch_lines.specs.declared.tasks.Task.{Task}
use Rattle.watch_lines.specs.declared.watcher.Step.TheVariants.{GoesOn}
use Rattle.watch_lines.proofs.WatcherLemmas.{forgets_none}
use Rattle.watch_lines.proofs.watcher.Watcher.raise_by.Goals as goal

pub returns-in-Some-clause-rises : goal.returns-in-Some-clause-rises
returns-in-Some-clause-rises c = λ s k.
    let e : own_floor s.tasks c.args.who c.args.end ≡ Some c.in-Some.at =
    ap (λ (ts : List Task). own_floor ts c.args.who c.args.end) (sym k.tasks ∙ sym c.as_slice.ensures.value)
    ∙ (sym c.own_floor.ensures ∙ c.in-Some.is) in
    let P : Option ℕ → Type 0 = λ at. RisesAs s (raised_by s c.args.who at) c.raise.result in
    subst P (sym e) (c.raise.ensures.rises s k)

pub returns-in-None-clause-rises : goal.returns-in-None-clause-rises
returns-in-None-clause-rises c = λ s k.
    let e : own_floor s.tasks c.args.who c.args.end ≡ None =
    ap (λ (ts : List Task). own_floor ts c.args.who c.args.end) (sym k.tasks ∙ sym c.as_slice.ensures.value)
    ∙ (sym c.own_floor.ensures ∙ c.in-None.is) in
    let P : Option ℕ → Type 0 = λ at. RisesAs s (raised_by s c.args.who at) (GoesOn c.args.self) in
    subst P (sym e) (k, λ less. absurd (omega (arith, less)))

pub returns-in-None-clause-forgets : goal.returns-in-None-clause-forgets
returns-in-None-clause-forgets c = forgets_none c.args.self c.args.self refl
