use Rattle.mz_eval_row_symbols.proofs.NumberLaws.{are_numbers}
use Rattle.mz_eval_row_symbols.proofs.numbers.row_of_numbers.Goals as goal

pub returns-in_ok-ends-in-Some-Scalar-clause-numbers :
    goal.returns-in_ok-ends-in-Some-Scalar-clause-numbers
returns-in_ok-ends-in-Some-Scalar-clause-numbers c x y i j = are_numbers x y c.in-Some-Scalar.w c.args.a.now c.args.b.now c.in_ok-ends-in-Some-Scalar.ends c.in_ok-ends-in-Some-Scalar.ensures i j
