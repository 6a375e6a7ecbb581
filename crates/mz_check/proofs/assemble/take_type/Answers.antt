use Rattle.std.proofs.Common.{◌∙◌, ap, sym}
use Rattle.std.specs.Option.{option_map}
use Rattle.mz_core.specs.TreeViews.{declared_type}
use Rattle.mz_check_context.specs.Headings.{tested}
use Rattle.mz_check_context.proofs.Answering.{answer_found}
use Rattle.mz_check.specs.StepsTaking.{taken}
use Rattle.mz_check.proofs.assemble.take_type.Goals as goal

pub returns-clause-taken : goal.returns-clause-taken
returns-clause-taken c = c.typed.ensures ∙ ap taken (ap (option_map (tested declared_type)) c.swap_remove.ensures.value ∙ sym (answer_found declared_type c.args.d c.args.types.now.entries))

pub returns-clause-others : goal.returns-clause-others
returns-clause-others c = λ k e. answer_found declared_type k c.swap_remove.new.self.entries ∙ ap (option_map (tested declared_type)) (c.swap_remove.ensures.updates.2 k e) ∙ sym (answer_found declared_type k c.args.types.now.entries)
