use Rattle.std.proofs.Common.{sym, ap}
use Rattle.mz_core.specs.Types.{plain_type}
use Rattle.mz_symbol.specs.Readings.{state_of}
use Rattle.mz_eval_cells.specs.Views.{all_seen, seen}
use Rattle.mz_eval_nodes.specs.Views.{stamped}
use Rattle.mz_eval_chains.proofs.Runs.{meets_at_is}
use Rattle.mz_eval.specs.Levels.{world_in}
use Rattle.mz_eval.specs.Nodes.{access_node}
use Rattle.mz_eval.proofs.forms.element_among.Goals as goal

pub returns-clause-means : goal.returns-clause-means
returns-clause-means c r h =
    let t = plain_type c.args.node.now.ty in
    meets_at_is (stamped t r) c.element_of.result (state_of r c.element_of.new.run) _ _
    (ap (λ ks. access_node (world_in r c.args.level.now) t c.args.node.now.span (seen r c.args.a.now) (all_seen r ks) (state_of r c.args.run.now)) (sym c.deref.ensures.value))
    (c.element_of.ensures.means r h)
