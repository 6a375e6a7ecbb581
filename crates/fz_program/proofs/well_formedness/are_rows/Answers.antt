use Rattle.std.proofs.Common.{map}
use Rattle.fz_program.specs.Flat.{IsWellFormedRow, row, variable}
use Rattle.fz_program.proofs.TestAnswers.{says_true, says_false, denied}
use Rattle.fz_program.proofs.Each.{each_all, each_from_map, each_to_map, loop_fails}
use Rattle.fz_program.proofs.well_formedness.are_rows.Goals as goal

pub returns-then-not-is_row : goal.returns-then-not-is_row
returns-then-not-is_row c =
    let xs = c.args.rows.now in
    let fails = denied c.is_row.result c.is_row.ensures.1 c.if-not-is_row.true in
    says_false (λ a. loop_fails (λ r. IsWellFormedRow (map variable c.args.vars.now) (row r)) xs c.loop-r.r-index c.r-item.result c.loop-r-test.true c.r-item.is fails (each_from_map (IsWellFormedRow (map variable c.args.vars.now)) row xs a))

pub returns : goal.returns
returns c =
    let xs = c.args.rows.now in
    says_true (each_to_map (IsWellFormedRow (map variable c.args.vars.now)) row xs (each_all (λ r. IsWellFormedRow (map variable c.args.vars.now) (row r)) xs c.loop-r.r-index c.loop-r-test.false c.loop-r.invariant))
