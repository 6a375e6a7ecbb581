use Rattle.std.proofs.Common.{◌∙◌, ap, map}
use Rattle.mz_core.specs.TreeViews.{step}
use Rattle.mz_meaning.specs.Chains.{chain_level, same_level}
use Rattle.mz_eval_chains.proofs.Layers.{is_innermost_of_chain, is_innermost_of_coerce}
use Rattle.mz_eval_chains.proofs.levels.+is_chain_of_level.Goals as goal

pub returns-in-Chain : goal.returns-in-Chain
returns-in-Chain t c =
    c.same_level.ensures
    ∙ ap (λ l. same_level l (map step c.as_slice.result.now)) c.chain_level.ensures
    ∙ is_innermost_of_chain (chain_level (map step c.args.all.now)) c.args.e.now _ _ c.as_slice.result.now c.in-Chain.is c.as_slice.ensures.value

pub returns-in-Coerce : goal.returns-in-Coerce
returns-in-Coerce t c = c.is_chain_of_level.ensures ∙ is_innermost_of_coerce (chain_level (map step c.args.all.now)) c.args.e.now c.deref.result.now _ _ c.in-Coerce.is c.deref.ensures
