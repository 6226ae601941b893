use Rattle.std.proofs.Common.{◌≡◌, ◌∙◌, ap, ap₂, rules, codes, true}
use Rattle.std.proofs.lemmas.Result.{IfOk-weaker}
use Rattle.clap.specs.Words.{App, app_of, rule_of, with_rule}
use Rattle.clap.specs.Simple.{app_of_fields}
use Rattle.job_parts.specs.Command.{bare_app, option_rule, words_rule}
use Rattle.job_parts.proofs.command.Goals as goal

pub returns : goal.returns
returns c =
    let budget_is : rule_of c.long-budget.result ≡ option_rule (codes "budget") = search rules in
    let steps_is : rule_of c.long-steps.result ≡ option_rule (codes "steps") = search rules in
    let words_is : rule_of c.action-words.result ≡ words_rule = search rules in
    let bare : app_of c.disable_help_flag.result ≡ bare_app =
    ap app_of_fields c.disable_help_flag.ensures
    ∙ ap (λ (a : App). record a { top = record a.top { disable_help_flag = true } })
    (ap app_of_fields c.no_binary_name.ensures ∙ ap (λ (a : App). record a { top = record a.top { no_binary_name = true } }) c.new-4.ensures.app) in
    IfOk-weaker c.arg-3.result _ _ (λ r h. h.shape (search rules) ∙ ap₂ with_rule (c.in_ok-arg-2.ensures.shape (search rules)
    ∙ ap₂ with_rule (c.in_ok-arg.ensures.shape (search rules) ∙ ap₂ with_rule bare budget_is) steps_is) words_is) c.arg-3.ensures
