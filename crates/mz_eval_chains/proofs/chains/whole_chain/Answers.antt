use Rattle.std.proofs.Common.{◌∙◌, map, sym, ap}
use Rattle.mz_core.specs.TreeViews.{tree, step}
use Rattle.mz_meaning.specs.Chains.{with_innermost}
use Rattle.mz_eval_chains.proofs.chains.whole_chain.Goals as goal

pub returns : goal.returns
returns c = c.in_ok-f.ensures ∙ ap (with_innermost c.args.at (map step c.args.all.now) (tree c.args.first.now)) (sym c.in_ok-part.ensures)
