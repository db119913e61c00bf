-- The word that is told names the budget, or there is none.
use Rattle.std.proofs.Common.{ap, codes, ◌∙◌}
use Rattle.clap.specs.Words.{found_of}
use Rattle.clap.proofs.WalkLemmas.{first_value-rows}
use Rattle.fsr_words.specs.Command.{budget_named}
use Rattle.fsr_words.proofs.command.budget_in.Goals as goal

pub returns : goal.returns
returns c = c.budget_named.ensures ∙ ap budget_named (c.get_str.ensures ∙ first_value-rows (found_of c.args.found.now) (codes "budget"))
