use Rattle.std.proofs.Common.{◌≡◌, ◌∙◌, ap, ap₂, true}
use Rattle.std.proofs.lemmas.Result.{IfOk-weaker}
use Rattle.clap.specs.Simple.{app_of, app_of_fields, on_top, with_rule}
use Rattle.mz_words.specs.Commands.{bare_command}
use Rattle.mz_words.proofs.command.commands.files_command.Goals as goal

pub returns : goal.returns
returns c =
    let bare : app_of c.disable_help_flag.result ≡ bare_command c.args.name.now =
    ap app_of_fields c.disable_help_flag.ensures ∙ ap (on_top (λ s. record s { disable_help_flag = true })) c.new.ensures.app in
    let with_model = c.in_ok-arg.ensures.shape c.model.ensures.own ∙ ap₂ with_rule bare c.model.ensures.rule in
    let with_data = c.in_ok-arg-2.ensures.shape c.data_files.ensures.own ∙ ap₂ with_rule with_model c.data_files.ensures.rule in
    let with_budget = c.in_ok-arg-3.ensures.shape c.number.ensures.own ∙ ap₂ with_rule with_data c.number.ensures.rule in
    IfOk-weaker c.arg-4.result _ _ (λ command added. added.shape c.number-2.ensures.own ∙ ap₂ with_rule with_budget c.number-2.ensures.rule) c.arg-4.ensures
