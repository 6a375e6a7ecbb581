use Rattle.std.proofs.Common.{rules, arith, sym}
use Rattle.mz_operations_bounds.proofs.Raising.{raised_none, stuck_at, factor_made}
use Rattle.mz_operations_bounds.proofs.powers.multiplied.Goals as goal

pub loop-factor-init : goal.loop-factor-init
loop-factor-init c = sym (raised_none c.args.e.now)

pub returns-in_default : goal.returns-in_default
returns-in_default c = stuck_at c.args.e.now c.loop-factor.acc c.loop-factor._factor c.args.n c.loop-factor.invariant (search rules) (omega arith)

pub loop-factor-preserved : goal.loop-factor-preserved
loop-factor-preserved c = factor_made c.args.e.now c.loop-factor.acc c.fold_ends-acc.result c.loop-factor._factor c.fold_ends-acc.ensures c.loop-factor.invariant
