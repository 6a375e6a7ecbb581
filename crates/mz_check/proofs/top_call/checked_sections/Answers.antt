use Rattle.mz_scope_order.specs.Scoped.{scoped_tree}
use Rattle.mz_check_context.specs.Known.{known}
use Rattle.mz_check.specs.StepsParts.{sections_of}
use Rattle.mz_check.proofs.Assembling.{sections_numbered}
use Rattle.mz_check.proofs.top_call.checked_sections.Goals as goal

-- not checked: the goal's name, and how the context is named there
pub with_data-requires : goal.with_data-requires
with_data-requires c = sections_numbered (scoped_tree c.args.scoped.now) (known c.args.context) (sections_of c.in_ok-sections.sections) c.in_ok-sections.ensures
