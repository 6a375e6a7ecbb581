use Rattle.std.proofs.Common.{map}
use Rattle.std.specs.Vec.Iter.{into_iter_items}
use Rattle.mz_core.specs.TreeViews.{tree}
use Rattle.mz_core.specs.Program.{function}
use Rattle.mz_scope_order.specs.Scoped.{lent_function}
use Rattle.mz_check_context.specs.Headings.{heading}
use Rattle.mz_check_context.specs.Known.{answers}
use Rattle.mz_check.specs.StepsTaking.{function_by}
use Rattle.mz_check.proofs.Taking.{AreMade}
use Rattle.mz_check.proofs.assemble.made_functions.Given as goal

abbrev pub invariant-loop-body : goal.invariant-loop-body
invariant-loop-body l = AreMade function_by (answers heading l.fn.headings.entries) (answers heading l.headings.entries) (map lent_function l.functions) (map tree l.fn.bodies.items) (map tree (into_iter_items l.body-iterator)) l.number (map function l.all.items)
