use Rattle.std.proofs.Common.{map}
use Rattle.fz_program.specs.Flat.{IsWellFormedArray, array_item, variable}
use Rattle.fz_program.proofs.TestAnswers.{says_true, says_false, denied}
use Rattle.fz_program.proofs.Each.{each_all, each_from_map, each_to_map, loop_fails}
use Rattle.fz_program.proofs.well_formedness.are_arrays.Goals as goal

pub returns-then-not-is_array : goal.returns-then-not-is_array
returns-then-not-is_array c =
    let xs = c.args.arrays.now in
    let fails = denied c.is_array.result c.is_array.ensures.1 c.if-not-is_array.true in
    says_false (λ a. loop_fails (λ r. IsWellFormedArray (map variable c.args.vars.now) (array_item r)) xs c.loop-a.a-index c.a-item.result c.loop-a-test.true c.a-item.is fails (each_from_map (IsWellFormedArray (map variable c.args.vars.now)) array_item xs a))

pub returns : goal.returns
returns c =
    let xs = c.args.arrays.now in
    says_true (each_to_map (IsWellFormedArray (map variable c.args.vars.now)) array_item xs (each_all (λ r. IsWellFormedArray (map variable c.args.vars.now) (array_item r)) xs c.loop-a.a-index c.loop-a-test.false c.loop-a.invariant))
