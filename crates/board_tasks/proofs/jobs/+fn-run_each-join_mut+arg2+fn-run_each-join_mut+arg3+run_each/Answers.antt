-- What is done to both halves is done to the whole, as the second half begins where the first ends.
use Rattle.std.proofs.Common.{rules, ◌≡◌, ℕ, ◌+◌, ◌/◌, length}
use Rattle.board_tasks.specs.Jobs.{EachStep}
use Rattle.board_tasks.proofs.Halves.{steps_both}
use Rattle.board_tasks.proofs.jobs.+fn-run_each-join_mut+arg2+fn-run_each-join_mut+arg3+run_each.Goals as goal

pub returns : goal.returns
returns g t c =
    let second : ℕ = c.args.first + length c.args.all.now / 2 in
    let a = c.split_at_mut-front.result.0.now in
    let b = c.split_at_mut-front.result.1.now in
    let front : EachStep (g.J.Job.ran c.args.job.now) c.args.first a c.front-1.given.0 = search rules in
    let back : EachStep (g.J.Job.ran c.args.job.now) second b c.back-1.given.0 = search rules in
    let halves : second ≡ c.args.first + length a = search rules in
    rw c.split_at_mut-front.ensures.value
    (steps_both (g.J.Job.ran c.args.job.now) c.args.first second a c.front-1.given.0 b c.back-1.given.0 halves front back)
