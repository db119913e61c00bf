-- One more has it, and at last each.
use Rattle.std.proofs.Common.{◌≡◌, ◌<◌, ◌≤◌, length, refl, ap, ◌∙◌, arith}
use Rattle.std.proofs.Common.{slice_get, Some}
use Rattle.std.proofs.lemmas.Option.{slice_get_read}
use Rattle.watch_lines.specs.Tasks.{task_with}
use Rattle.watch_lines.proofs.TaskLemmas.{changed_all, changed_long, changed_more}
use Rattle.watch_lines.proofs.tasks.raise_task.Goals as goal

pub loop-i-preserved : goal.loop-i-preserved
loop-i-preserved c =
    changed_more (task_with c.args.who c.args.at c.args.line) c.args.tasks.now.items c.loop-i.tasks.items c.loop-i.i c.index.result.now
    c.task_with.result c.loop-i.invariant there c.task_with.ensures
  where
    inside : c.loop-i.i < length c.loop-i.tasks.items
    inside =
        let a = c.loop-i-test.true in
        let n = c.len-i-end.ensures in
        let k = c.args.tasks.now.ok in
        let long = ap length c.loop-i.invariant
        ∙ changed_long (task_with c.args.who c.args.at c.args.line) c.args.tasks.now.items c.loop-i.i in
        omega (arith, a, n, k, long)

    there : slice_get c.loop-i.tasks.items c.loop-i.i ≡ Some c.index.result.now
    there = slice_get_read c.loop-i.tasks.items (length c.loop-i.tasks.items) c.loop-i.i c.index.result.now refl inside c.index.ensures

pub returns : goal.returns
returns c =
    let done : length c.args.tasks.now.items ≤ c.loop-i.i =
    let a = c.loop-i-test.false in let n = c.len-i-end.ensures in let k = c.args.tasks.now.ok in omega (arith, a, n, k) in
    c.loop-i.invariant ∙ changed_all (task_with c.args.who c.args.at c.args.line) c.args.tasks.now.items c.loop-i.i done
