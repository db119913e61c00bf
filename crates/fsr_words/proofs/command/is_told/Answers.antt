-- The value of the flag tells whether it is there.
use Rattle.std.proofs.Common.{◌∙◌}
use Rattle.clap.specs.Words.{found_of}
use Rattle.clap.proofs.WalkLemmas.{first_value-rows}
use Rattle.fsr_words.proofs.CommandLemmas.{told_by_none, told_by_value}
use Rattle.fsr_words.proofs.command.is_told.Goals as goal

pub returns-in-Some : goal.returns-in-Some
returns-in-Some c =
    told_by_value _ _ _ (c.in-Some.ensures ∙ first_value-rows (found_of c.args.found.now) c.args.flag.now) c.eq.ensures

pub returns-in-None : goal.returns-in-None
returns-in-None c = told_by_none _ (c.in-None.ensures ∙ first_value-rows (found_of c.args.found.now) c.args.flag.now)
