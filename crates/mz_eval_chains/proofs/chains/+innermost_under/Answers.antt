use Rattle.std.proofs.Common.{rules}
use Rattle.mz_eval_chains.proofs.Layers.{innermost_chained, innermost_coerced}
use Rattle.mz_eval_chains.proofs.chains.+innermost_under.Goals as goal

pub returns-in_ok-f-in-Chain : goal.returns-in_ok-f-in-Chain
returns-in_ok-f-in-Chain t c =
    innermost_chained c.args.l c.args.e.now c.deref.result.now c.deref-in-Chain.result.now _ _ c.as_slice-steps.result.now c.in_ok-part-in-Chain.part c.in_ok-f-in-Chain.f c.in-Chain.is c.deref.ensures c.deref-in-Chain.ensures c.as_slice-steps.ensures.value (search rules) c.in_ok-part-in-Chain.ensures c.in_ok-f-in-Chain.ensures

pub returns-in_ok-o-in-Coerce : goal.returns-in_ok-o-in-Coerce
returns-in_ok-o-in-Coerce t c =
    innermost_coerced c.args.l c.args.e.now c.deref-in-Coerce.result.now _ _ c.in_ok-o-in-Coerce.o c.in-Coerce.is c.deref-in-Coerce.ensures c.in_ok-o-in-Coerce.ensures
