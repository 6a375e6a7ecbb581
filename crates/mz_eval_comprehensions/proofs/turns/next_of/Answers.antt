use Rattle.std.proofs.Common.{◌<ℤ◌, ◌≤ℤ◌, arith, rules}
use Rattle.std.proofs.lemmas.Int.{ints, to_z-of_z}
use Rattle.mz_eval_comprehensions.proofs.Numbers.{next_given, none_next}
use Rattle.mz_eval_comprehensions.proofs.turns.next_of.Goals as goal

pub returns-then-n-r : goal.returns-then-n-r
returns-then-n-r c =
    let n = c.in-Some.n in
    let below : n <ℤ c.args.r.now.1 = first_of (search rules, omega (arith, ints), grind (arith, ints, to_z-of_z)) in
    next_given c.args.r.now c.args.last.now n _ c.in-Some.is below (first_of (grind (arith, ints, to_z-of_z), search (arith, ints, to_z-of_z)))

pub returns-else-n-r : goal.returns-else-n-r
returns-else-n-r c =
    let n = c.in-Some.n in
    let above : c.args.r.now.1 ≤ℤ n = first_of (search rules, omega (arith, ints), grind (arith, ints, to_z-of_z)) in
    none_next c.args.r.now c.args.last.now n c.in-Some.is above
