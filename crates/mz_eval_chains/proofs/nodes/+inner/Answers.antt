use Rattle.std.proofs.Common.{◌∙◌}
use Rattle.mz_eval_chains.proofs.Layers.{inner_of_coerce}
use Rattle.mz_eval_chains.proofs.nodes.+inner.Goals as goal

pub returns-in-Coerce : goal.returns-in-Coerce
returns-in-Coerce t c = inner_of_coerce c.args.e.now c.deref.result.now _ _ c.in-Coerce.is c.deref.ensures ∙ c.inner.ensures
