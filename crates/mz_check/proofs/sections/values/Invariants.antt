use Rattle.std.proofs.Common.{map, drop}
use Rattle.std.specs.List.{enumerate_from}
use Rattle.std.specs.Option.{option_map}
use Rattle.mz_core.specs.TreeViews.{tree}
use Rattle.mz_scope_order.specs.Scoped.{scoped_decl}
use Rattle.mz_check_meaning.specs.Checks.{numbered}
use Rattle.mz_check_context.specs.Known.{known}
use Rattle.mz_check.specs.StepsMeeting.{met_of}
use Rattle.mz_check.specs.StepsParts.{value_of_each, value_at}
use Rattle.mz_check.proofs.Keeping.{AreTestedBut}
use Rattle.mz_check.proofs.sections.values.Given as goal

abbrev pub invariant-loop-k : goal.invariant-loop-k
invariant-loop-k l = AreTestedBut value_at (value_of_each (known l.context)) (numbered (map scoped_decl l.decls)) (enumerate_from l.k (map scoped_decl (drop l.k l.decls))) (option_map met_of l.fn.first) (option_map met_of l.first) (map (option_map tree) l.all.items)
