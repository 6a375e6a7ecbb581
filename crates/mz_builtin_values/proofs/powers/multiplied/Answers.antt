use Rattle.std.proofs.Common.{arith, rules, sym}
use Rattle.std.proofs.lemmas.Int.{ints}
use Rattle.mz_builtin_values.proofs.Raised.{raised_none, stuck_at, factor_made}
use Rattle.mz_builtin_values.proofs.powers.multiplied.Goals as goal

pub loop-factor-init : goal.loop-factor-init
loop-factor-init c = sym (raised_none _)

pub returns-then-not-is_number : goal.returns-then-not-is_number
returns-then-not-is_number c = stuck_at c.args.x _ _ _ c.loop-factor._factor c.args.n c.loop-factor.invariant (search rules) (omega arith) (omega (arith, ints)) (omega (arith, ints))

pub loop-factor-preserved : goal.loop-factor-preserved
loop-factor-preserved c = factor_made _ _ _ c.folded-acc.result c.loop-factor._factor c.folded-acc.ensures c.loop-factor.invariant (omega (arith, ints))
