-- The answer is the last one, whole, and its number is no smaller than that of the answer before.
use Rattle.std.proofs.Common.{List, ◌∙◌, ap, arith, sym}
use Rattle.example_cell.specs.declared.Sample.{Sample}
use Rattle.cell_contract.specs.Running.{last_or}
use Rattle.cell_contract.proofs.ListLaws.{last_snoc}
use Rattle.example_cell.proofs.steer.Goals as goal

pub loop-preserved : goal.loop-preserved
loop-preserved g c =
    let o = g.C.Calls.opening c.args.cell.now in
    let before = c.loop.invariant in
    let answer = c.read-sample.ensures.running in
    record {
      own = c.read-sample.ensures.own;
      last = sym (ap (λ (xs : List Sample). last_or o xs) c.read-sample.ensures.answers
          ∙ last_snoc o (g.C.Calls.answers c.loop.task.get) c.read-sample.result);
      whole = answer.0;
      no_older = omega (arith, before.no_older, ap (λ (x : Sample). x.number) before.last, answer.2);
    }
