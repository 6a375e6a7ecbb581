use Rattle.mz_core.specs.Tree.{type_of}
use Rattle.mz_core.specs.TreeViews.{tree}
use Rattle.mz_eval_chains.proofs.Layers.{base_after_round}
use Rattle.mz_eval_chains.proofs.bases.base_round.Goals as goal

pub returns-in-Coerce : goal.returns-in-Coerce
returns-in-Coerce c = base_after_round (type_of (tree c.args.operand.now)) c.args.e.now _ _ c.in-Coerce.is
