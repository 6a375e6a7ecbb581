use Rattle.std.proofs.Common.{arith, sym, ◌∙◌}
use Rattle.std.proofs.lemmas.Int.{ints}
use Rattle.mz_interval.specs.Rows.{sum_of, negation_of}
use Rattle.mz_operations_bounds.proofs.Pairs.{pair_same, difference_is}
use Rattle.mz_operations_bounds.proofs.ends.difference.Goals as goal

pub returns : goal.returns
returns c = pair_same (sum_of c.args.e.now (negation_of c.args.f.now)) _ _ (omega (arith, ints)) (omega (arith, ints)) ∙ sym (difference_is c.args.e.now c.args.f.now)
