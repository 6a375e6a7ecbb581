use Rattle.std.proofs.Common.{take, map}
use Rattle.std.specs.List.{AllByRecursion}
use Rattle.fz_program.specs.Flat.{IsWellFormedArray, array_item, variable}
use Rattle.fz_program.proofs.well_formedness.are_arrays.Given as goal

abbrev pub invariant-loop-a : goal.invariant-loop-a
invariant-loop-a l = AllByRecursion (λ r. IsWellFormedArray (map variable l.vars) (array_item r)) (take l.a-index l.arrays)
