use Rattle.std.proofs.Common.{◌≡◌, ◌∙◌, ap, ap₂, true}
use Rattle.std.proofs.lemmas.Result.{IfOk-weaker}
use Rattle.clap.specs.Simple.{app_of, app_of_fields, on_top, with_rule}
use Rattle.mz_words.specs.Commands.{bare_command}
use Rattle.mz_words.proofs.command.commands.number_command.Goals as goal

pub returns : goal.returns
returns c =
    let bare : app_of c.disable_help_flag.result ≡ bare_command c.args.name.now =
    ap app_of_fields c.disable_help_flag.ensures ∙ ap (on_top (λ s. record s { disable_help_flag = true })) c.new.ensures.app in
    IfOk-weaker c.arg.result _ _ (λ command added. added.shape c.count.ensures.own ∙ ap₂ with_rule bare c.count.ensures.rule) c.arg.ensures
