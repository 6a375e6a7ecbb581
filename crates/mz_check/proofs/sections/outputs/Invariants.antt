use Rattle.std.proofs.Common.{map, drop}
use Rattle.std.specs.Option.{option_map}
use Rattle.mz_core.specs.TreeViews.{tree}
use Rattle.mz_scope_order.specs.Scoped.{lent_tree}
use Rattle.mz_check_meaning.specs.Items.{output}
use Rattle.mz_check_meaning.specs.Checks.{tree_place}
use Rattle.mz_check_context.specs.Known.{known}
use Rattle.mz_check.specs.StepsMeeting.{met_of}
use Rattle.mz_check.proofs.Keeping.{AreTestedBut}
use Rattle.mz_check.proofs.sections.outputs.Given as goal

abbrev pub invariant-loop-e : goal.invariant-loop-e
invariant-loop-e l = AreTestedBut tree_place (output (known l.context)) (map lent_tree l.es) (map lent_tree (drop l.e-index l.es)) (option_map met_of l.fn.first) (option_map met_of l.first) (map tree l.all.items)
