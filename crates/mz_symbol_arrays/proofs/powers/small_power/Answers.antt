use Rattle.std.proofs.Common.{arith}
use Rattle.mz_symbol_arrays.proofs.PowerLaws.{few_go, none_goes, power_first, power_zero}
use Rattle.mz_symbol_arrays.proofs.powers.small_power.Goals as goal

pub returns-then-is_none-clause-goes : goal.returns-then-is_none-clause-goes
returns-then-is_none-clause-goes c w = few_go 8 w c.args.run.now c.one_node.new.run (omega arith) c.in-Ok.ensures.goes

pub returns-then-is_none-clause-powers : goal.returns-then-is_none-clause-powers
returns-then-is_none-clause-powers c r h = power_zero r c.args.run.now c.one_node.new.run c.args.x c.args.k c.in-Ok.one (c.is_none.ensures c.if-is_none.true) (c.in-Ok.ensures.means r h)

pub returns-then-is_one-clause-goes : goal.returns-then-is_one-clause-goes
returns-then-is_one-clause-goes c w = none_goes w c.args.run.now

pub returns-then-is_one-clause-powers : goal.returns-then-is_one-clause-powers
returns-then-is_one-clause-powers c r h = power_first r c.args.run.now c.args.x c.args.k (c.is_one.ensures c.if-is_one.true)

pub returns-clause-goes : goal.returns-clause-goes
returns-clause-goes c w = none_goes w c.args.run.now
