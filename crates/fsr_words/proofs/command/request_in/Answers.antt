-- The name and the matches of the subcommand give the command, where there is a subcommand.
use Rattle.fsr_words.proofs.CommandLemmas.{request_nowhere, request_of_subcommand}
use Rattle.fsr_words.proofs.command.request_in.Goals as goal

pub returns-in-Some : goal.returns-in-Some
returns-in-Some c = request_of_subcommand c.args.matches.now _ _ _ c.in-Some.ensures.name c.in-Some.ensures.rows c.request_named.ensures

pub returns-in-None : goal.returns-in-None
returns-in-None c = request_nowhere _ c.in-None.ensures.rows
