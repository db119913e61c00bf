-- Each subcommand is added to those before it.
use Rattle.std.proofs.Common.{ap, codes, ◌∙◌}
use Rattle.std.proofs.lemmas.Result.{IfOk-weaker}
use Rattle.clap.specs.Words.{App, with_subcommand}
use Rattle.fsr_words.specs.Command.{over_a_document, over_a_log}
use Rattle.fsr_words.proofs.command.with_documents.Goals as goal

pub returns : goal.returns
returns c = IfOk-weaker c.with_command-3.result _ _ (λ line adds. adds
    ∙ ap (λ (a : App). with_subcommand a (over_a_document (codes "race"))) (c.in_ok-line-3.ensures
    ∙ ap (λ (a : App). with_subcommand a (over_a_document (codes "play"))) (c.in_ok-line-2.ensures
    ∙ ap (λ (a : App). with_subcommand a over_a_log) c.in_ok-line.ensures))) c.with_command-3.ensures
