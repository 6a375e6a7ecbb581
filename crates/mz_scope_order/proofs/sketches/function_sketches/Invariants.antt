use Rattle.std.proofs.Common.{◌≡◌, ◌++◌, map, drop}
use Rattle.mz_scope_names.specs.Sketches.{sketch, function_sketch}
use Rattle.mz_scope_order.specs.Scoped.{lent_function}
use Rattle.mz_scope_order.proofs.sketches.function_sketches.Given as goal

abbrev pub invariant-loop-f : goal.invariant-loop-f
invariant-loop-f l = map function_sketch (map lent_function l.functions) ≡ map sketch l.all.items ++ map function_sketch (map lent_function (drop l.f-index l.functions))
