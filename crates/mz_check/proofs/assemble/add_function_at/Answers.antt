use Rattle.std.proofs.Common.{map}
use Rattle.mz_core.specs.TreeViews.{tree}
use Rattle.mz_core.specs.Program.{function}
use Rattle.mz_scope_order.specs.Scoped.{lent_function}
use Rattle.mz_check_context.specs.Headings.{heading}
use Rattle.mz_check_context.specs.Known.{answers}
use Rattle.mz_check.specs.StepsTaking.{function_by}
use Rattle.mz_check.proofs.Taking.{none_lent, nothing_added}
use Rattle.mz_check.proofs.assemble.add_function_at.Goals as goal

pub returns-in-None-clause-made : goal.returns-in-None-clause-made
returns-in-None-clause-made c = nothing_added function_by (answers heading c.args.headings.now.entries) c.args.number _ (tree c.args.body) (map function c.args.all.now.items) (none_lent lent_function c.args.functions.now c.args.number c.get.result c.get.ensures.lookup c.in-None.is)
