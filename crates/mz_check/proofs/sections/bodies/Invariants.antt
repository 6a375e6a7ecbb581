use Rattle.std.proofs.Common.{map, drop}
use Rattle.std.specs.List.{enumerate_from}
use Rattle.std.specs.Option.{option_map}
use Rattle.mz_core.specs.TreeViews.{tree}
use Rattle.mz_scope_order.specs.Scoped.{lent_function}
use Rattle.mz_check_meaning.specs.Checks.{numbered}
use Rattle.mz_check_context.specs.Known.{known}
use Rattle.mz_check.specs.StepsMeeting.{met_of}
use Rattle.mz_check.specs.StepsParts.{body_of_each, body_at}
use Rattle.mz_check.proofs.Keeping.{AreTestedBut}
use Rattle.mz_check.proofs.sections.bodies.Given as goal

abbrev pub invariant-loop-k : goal.invariant-loop-k
invariant-loop-k l = AreTestedBut body_at (body_of_each (known l.context)) (numbered (map lent_function l.functions)) (enumerate_from l.k (map lent_function (drop l.k l.functions))) (option_map met_of l.fn.first) (option_map met_of l.first) (map tree l.all.items)
