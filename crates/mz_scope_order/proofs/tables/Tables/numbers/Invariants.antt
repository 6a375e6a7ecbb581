use Rattle.std.proofs.Common.{◌≡◌, ◌++◌, drop, map}
use Rattle.mz_scope_names.specs.Sketches.{sketch}
use Rattle.mz_scope_order.specs.StepsGraphs.{numbers_by}
use Rattle.mz_scope_order.proofs.tables.Tables.numbers.Given as goal

abbrev pub invariant-loop-f : goal.invariant-loop-f
invariant-loop-f l = numbers_by l.self.bare l.self.applied (map sketch l.functions) ≡ l.numbers.items ++ numbers_by l.self.bare l.self.applied (map sketch (drop l.f-index l.functions))
