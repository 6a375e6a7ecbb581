use Rattle.std.proofs.Common.{take, map}
use Rattle.std.specs.List.{AllByRecursion}
use Rattle.fz_program.specs.Flat.{IsWellFormedRow, row, variable}
use Rattle.fz_program.proofs.well_formedness.are_rows.Given as goal

abbrev pub invariant-loop-r : goal.invariant-loop-r
invariant-loop-r l = AllByRecursion (λ r. IsWellFormedRow (map variable l.vars) (row r)) (take l.r-index l.rows)
