use Rattle.flat_reif.specs.States.{state}
use Rattle.flat.proofs.Stepping.{VarsLeft}
use Rattle.flat.proofs.variables.declare_vars.Given as goal

abbrev pub invariant-vars : goal.invariant-vars
invariant-vars l = VarsLeft (state l.fn.flat) (state l.flat) l.names l.vars l.m-index
