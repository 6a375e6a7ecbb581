use Rattle.std.proofs.Common.{take}
use Rattle.std.specs.List.{AllByRecursion}
use Rattle.fz_program.specs.Flat.{IsWellFormedVariable, variable}
use Rattle.fz_program.proofs.well_formedness.are_variables.Given as goal

abbrev pub invariant-loop-v : goal.invariant-loop-v
invariant-loop-v l = AllByRecursion (λ v. IsWellFormedVariable (variable v)) (take l.v-index l.vars)
