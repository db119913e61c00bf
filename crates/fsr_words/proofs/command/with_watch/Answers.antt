-- The subcommand has a file and a budget.
use Rattle.std.proofs.Common.{rules, ap, ap₂, codes, false, ◌≡◌, ◌∙◌}
use Rattle.std.proofs.lemmas.Result.{IfOk-weaker}
use Rattle.clap.specs.Words.{App, app_of, new_app, new_rule, rule_of, with_rule, with_subcommand}
use Rattle.clap.specs.declared.builder.arg.Arg.{Arg}
use Rattle.fsr_words.specs.Command.{budget}
use Rattle.fsr_words.proofs.command.with_watch.Goals as goal

pub returns : goal.returns
returns c =
    let file_is : rule_of c.help-file.result ≡ new_rule (codes "FILE") = ap rule_of c.help-file.ensures ∙ c.new.ensures.rule in
    let file_is_local : c.help-file.result.global ≡ false = ap (λ (a : Arg). a.global) c.help-file.ensures ∙ c.new.ensures.optional.1 in
    let budget_is : rule_of c.help-budget.result ≡ budget = search rules in
    let bare_is : app_of c.about.result ≡ new_app (codes "watch") = search rules in
    let log_is : app_of c.in_ok-command.command
    ≡ with_rule (with_rule (new_app (codes "watch")) (new_rule (codes "FILE"))) budget =
    c.in_ok-command.ensures.shape (search rules)
    ∙ ap₂ with_rule (c.in_ok-arg.ensures.shape file_is_local ∙ ap₂ with_rule bare_is file_is) budget_is in
    IfOk-weaker c.subcommand.result _ _ (λ line adds. adds.shape (search rules)
    ∙ ap (with_subcommand (app_of c.args.line)) (ap (λ (a : App). a.top) log_is)) c.subcommand.ensures
