use Rattle.mz_symbol_arrays.proofs.SumWalkLaws.{joins}
use Rattle.mz_symbol_arrays.proofs.sums.walk.joined.Goals as goal

pub returns-clause-joins : goal.returns-clause-joins
returns-clause-joins c r h = joins r c.args.run.now c.arith.new.run c.args.op c.arith_of.result c.args.acc c.args.number c.in_ok-all.all c.arith_of.ensures (c.in_ok-all.ensures.means r h)
