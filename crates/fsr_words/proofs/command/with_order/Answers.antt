-- The subcommand has a file, four flags and a budget.
use Rattle.std.proofs.Common.{rules, ap, ap₂, codes, Bool, false, ◌≡◌, ◌∙◌}
use Rattle.std.proofs.lemmas.Result.{IfOk-weaker}
use Rattle.clap.specs.Words.{App, app_of, new_app, new_rule, rule_of, with_rule, with_subcommand}
use Rattle.clap.specs.declared.builder.arg.Arg.{Arg}
use Rattle.fsr_words.specs.Command.{budget, flag, with_flags}
use Rattle.fsr_words.proofs.command.with_order.Goals as goal

pub returns : goal.returns
returns c =
    let file_is : rule_of c.help-file.result ≡ new_rule (codes "FILE") = ap rule_of c.help-file.ensures ∙ c.new.ensures.rule in
    let file_is_local : c.help-file.result.global ≡ false = ap (λ (a : Arg). a.global) c.help-file.ensures ∙ c.new.ensures.optional.1 in
    let order_is : rule_of c.help-order.result ≡ flag (codes "order") = ap rule_of c.help-order.ensures ∙ c.flag.ensures.rule in
    let small_is : rule_of c.help-small.result ≡ flag (codes "small") = ap rule_of c.help-small.ensures ∙ c.flag-2.ensures.rule in
    let strict_is : rule_of c.help-strict.result ≡ flag (codes "strict") = ap rule_of c.help-strict.ensures ∙ c.flag-3.ensures.rule in
    let coherent_is : rule_of c.help-coherent.result ≡ flag (codes "coherent") =
    ap rule_of c.help-coherent.ensures ∙ c.flag-4.ensures.rule in
    let budget_is : rule_of c.help-budget.result ≡ budget = ap rule_of c.help-budget.ensures ∙ c.budget.ensures.rule in
    let local : Arg → Bool = λ a. a.global in
    let order_is_local : local c.help-order.result ≡ false = ap local c.help-order.ensures ∙ c.flag.ensures.local in
    let small_is_local : local c.help-small.result ≡ false = ap local c.help-small.ensures ∙ c.flag-2.ensures.local in
    let strict_is_local : local c.help-strict.result ≡ false = ap local c.help-strict.ensures ∙ c.flag-3.ensures.local in
    let coherent_is_local : local c.help-coherent.result ≡ false = ap local c.help-coherent.ensures ∙ c.flag-4.ensures.local in
    let budget_is_local : local c.help-budget.result ≡ false = ap local c.help-budget.ensures ∙ c.budget.ensures.local in
    let bare_is : app_of c.about.result ≡ new_app (codes "order") = search rules in
    let log_is : app_of c.in_ok-command.command
    ≡ with_rule (with_flags (with_rule (new_app (codes "order")) (new_rule (codes "FILE")))) budget =
    c.in_ok-command.ensures.shape budget_is_local
    ∙ ap₂ with_rule (c.in_ok-arg-5.ensures.shape coherent_is_local
    ∙ ap₂ with_rule (c.in_ok-arg-4.ensures.shape strict_is_local
    ∙ ap₂ with_rule (c.in_ok-arg-3.ensures.shape small_is_local
    ∙ ap₂ with_rule (c.in_ok-arg-2.ensures.shape order_is_local
    ∙ ap₂ with_rule (c.in_ok-arg.ensures.shape file_is_local ∙ ap₂ with_rule bare_is file_is) order_is) small_is) strict_is) coherent_is)
    budget_is in
    IfOk-weaker c.subcommand.result _ _ (λ line adds. adds.shape (search rules)
    ∙ ap (with_subcommand (app_of c.args.line)) (ap (λ (a : App). a.top) log_is)) c.subcommand.ensures
