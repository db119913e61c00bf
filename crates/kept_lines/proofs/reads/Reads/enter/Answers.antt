-- No record was read, or one.
use Rattle.std.proofs.Common.{sym, ◌∙◌}
use Rattle.kept_lines.proofs.ReadsLemmas.{none_given}
use Rattle.kept_lines.proofs.reads.Reads.enter.Goals as goal

pub returns-in-None : goal.returns-in-None
returns-in-None c = λ log knows. none_given log c.args.op.now c.args.self.now (sym c.gave.ensures ∙ c.in-None.is) knows
