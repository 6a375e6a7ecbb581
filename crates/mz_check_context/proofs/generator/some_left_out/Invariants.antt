use Rattle.std.proofs.Common.{◌≡◌, map, drop}
use Rattle.std.specs.List.{list_any}
use Rattle.mz_check_meaning.specs.Comprehensions.{may_leave_out}
use Rattle.mz_check_context.specs.Views.{typed_gen}
use Rattle.mz_check_context.proofs.generator.some_left_out.Given as goal

abbrev pub invariant-loop-g : goal.invariant-loop-g
invariant-loop-g l = list_any may_leave_out (map typed_gen l.gs) ≡ list_any may_leave_out (map typed_gen (drop l.g-index l.gs))
