-- A parse that succeeds has the command and its file among its matches; one that fails, and not for want of memory, shows a fault of the
-- words.
use Rattle.std.proofs.Common.{rules, ◌≢◌}
use Rattle.clap.specs.Words.{kind_of}
use Rattle.clap.specs.declared.error.kind.ErrorKind.TheVariants as kind
use Rattle.fsr_words.proofs.CommandLemmas.{file_parsed, parsed, refused}
use Rattle.fsr_words.proofs.command.asked_of.Goals as goal

pub returns-in-Some-clause-request : goal.returns-in-Some-clause-request
returns-in-Some-clause-request g c =
    let parse = c.in-Ok-try_get_matches_from in
    parsed _ _ parse.matches _ c.in-Ok.ensures parse.ensures.kinds parse.ensures.matches c.in-Some.ensures

pub returns-in-Some-clause-file : goal.returns-in-Some-clause-file
returns-in-Some-clause-file g c =
    let parse = c.in-Ok-try_get_matches_from in
    file_parsed _ _ parse.matches _ c.in-Ok.ensures parse.ensures.kinds parse.ensures.matches c.file_in-file.ensures

pub returns-in-Ok-try_get_matches_from-clause-err : goal.returns-in-Ok-try_get_matches_from-clause-err
returns-in-Ok-try_get_matches_from-clause-err g c =
    let parse = c.in-Ok-try_get_matches_from in
    parsed _ _ parse.matches _ c.in-Ok.ensures parse.ensures.kinds parse.ensures.matches c.in-None.ensures

pub returns-clause-err : goal.returns-clause-err
returns-clause-err g c =
    let other : kind_of c.in-Err.e ≢ kind.OutOfMemory = search rules in
    refused _ _ c.in-Err.e c.in-Ok.ensures c.in-Err.ensures.kinds other
