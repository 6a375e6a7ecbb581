use Rattle.mz_symbol_arrays.specs.StepsUnions.{HasMade}
use Rattle.mz_symbol_arrays.proofs.unions.walk.folded.Given as goal

abbrev pub invariant-loop-i : goal.invariant-loop-i
invariant-loop-i l = HasMade l.fn.run l.run l.op l.line l.from l.count l.i l.fn.first l.acc
