use Rattle.std.proofs.Common.{sym, subst}
use Rattle.mz_symbol_arrays.specs.StepsSums.{Counts}
use Rattle.mz_symbol_arrays.proofs.SumWalkLaws.{option_counts}
use Rattle.mz_symbol_arrays.proofs.sums.walk.counted_option.Goals as goal

pub returns-in_ok-number-in-SumOfOptions-clause-counts : goal.returns-in_ok-number-in-SumOfOptions-clause-counts
returns-in_ok-number-in-SumOfOptions-clause-counts c r h = subst (λ w. Counts r c.args.run.now c.summand.new.run w c.args.item c.in_ok-number-in-SumOfOptions.number) (sym c.in-SumOfOptions.is) (option_counts r c.args.run.now c.summand.new.run c.args.item c.in_ok-number-in-SumOfOptions.number c.requires (c.in_ok-number-in-SumOfOptions.ensures.means r h))
