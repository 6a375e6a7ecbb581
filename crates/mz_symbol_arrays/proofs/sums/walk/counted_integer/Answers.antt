use Rattle.mz_symbol_arrays.proofs.SumWalkLaws.{plain_counts}
use Rattle.mz_symbol_arrays.proofs.sums.walk.counted_integer.Goals as goal

pub returns-in-None-clause-counts : goal.returns-in-None-clause-counts
returns-in-None-clause-counts c r h = plain_counts r c.args.run.now c.args.op c.args.item c.requires c.in-None.is
