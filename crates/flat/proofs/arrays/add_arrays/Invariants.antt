use Rattle.flat_reif.specs.States.{state}
use Rattle.flat.proofs.Stepping.{ArraysLeft}
use Rattle.flat.proofs.arrays.add_arrays.Given as goal

abbrev pub invariant-vars : goal.invariant-vars
invariant-vars l = ArraysLeft (state l.fn.flat) (state l.flat) l.names l.vars l.m-index
