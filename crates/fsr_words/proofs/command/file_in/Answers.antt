-- The matches of the subcommand have the file, where there is a subcommand.
use Rattle.std.proofs.Common.{◌∙◌, codes}
use Rattle.clap.specs.Words.{found_of}
use Rattle.clap.proofs.WalkLemmas.{first_value-rows}
use Rattle.fsr_words.proofs.CommandLemmas.{file_among, file_nowhere}
use Rattle.fsr_words.proofs.command.file_in.Goals as goal

pub returns-in-Some : goal.returns-in-Some
returns-in-Some c = file_among _ _ _ c.in-Some.ensures.rows
    (c.get_str.ensures ∙ first_value-rows (found_of c.in-Some.found.now) (codes "FILE"))

pub returns-in-None : goal.returns-in-None
returns-in-None c = file_nowhere _ c.in-None.ensures.rows
