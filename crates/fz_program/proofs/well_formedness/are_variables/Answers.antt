use Rattle.fz_program.specs.Flat.{IsWellFormedVariable, variable}
use Rattle.fz_program.proofs.TestAnswers.{says_true, says_false, denied}
use Rattle.fz_program.proofs.Each.{each_all, each_from_map, each_to_map, loop_fails}
use Rattle.fz_program.proofs.well_formedness.are_variables.Goals as goal

pub returns-then-not-is_variable : goal.returns-then-not-is_variable
returns-then-not-is_variable c =
    let xs = c.args.vars.now in
    let fails = denied c.is_variable.result c.is_variable.ensures.1 c.if-not-is_variable.true in
    says_false (λ a. loop_fails (λ v. IsWellFormedVariable (variable v)) xs c.loop-v.v-index c.v-item.result c.loop-v-test.true c.v-item.is fails (each_from_map IsWellFormedVariable variable xs a))

pub returns : goal.returns
returns c =
    let xs = c.args.vars.now in
    says_true (each_to_map IsWellFormedVariable variable xs (each_all (λ v. IsWellFormedVariable (variable v)) xs c.loop-v.v-index c.loop-v-test.false c.loop-v.invariant))
