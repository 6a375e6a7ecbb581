use Rattle.mz_symbol_arrays.proofs.PowerLaws.{half_goes, halves_go, power_more}
use Rattle.mz_symbol_arrays.proofs.powers.+power_node.Goals as goal

pub returns-then-is_small-clause-goes : goal.returns-then-is_small-clause-goes
returns-then-is_small-clause-goes t c w l = c.small_power.ensures.goes w

pub returns-in_err-half-clause-goes : goal.returns-in_err-half-clause-goes
returns-in_err-half-clause-goes t c w l = half_goes c.args.run.now c.power_node.new.run c.args.k (c.is_small.ensures c.if-is_small.false) c.power_node.ensures.goes w l

pub returns-in_default-clause-goes : goal.returns-in_default-clause-goes
returns-in_default-clause-goes t c w l = halves_go c.args.run.now c.power_node.new.run c.doubled.new.run c.args.k (c.is_small.ensures c.if-is_small.false) c.in_ok-half.ensures.goes c.doubled.ensures.goes w l

pub returns-clause-goes : goal.returns-clause-goes
returns-clause-goes t c w l = halves_go c.args.run.now c.power_node.new.run c.doubled.new.run c.args.k (c.is_small.ensures c.if-is_small.false) c.in_ok-half.ensures.goes c.in-Ok.ensures.goes w l

pub returns-clause-powers : goal.returns-clause-powers
returns-clause-powers t c r h = power_more r c.args.run.now c.power_node.new.run c.doubled.new.run c.args.x c.args.k c.in_ok-half.half c.in-Ok.all c.is_odd.result c.is_odd.ensures (c.in_ok-half.ensures.powers r (c.in-Ok.ensures.goes.back r h)) (c.in-Ok.ensures.means r h)

pub returns-in_err-small-clause-goes : goal.returns-in_err-small-clause-goes
returns-in_err-small-clause-goes t c w l = c.small_power.ensures.goes w
