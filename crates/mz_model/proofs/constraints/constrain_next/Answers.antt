use Rattle.mz_core.specs.TreeViews.{tree}
use Rattle.mz_eval_scopes.specs.Seen.{world_seen}
use Rattle.mz_model.proofs.Steps.{constraint_done, constraint_ends}
use Rattle.mz_model.proofs.constraints.constrain_next.Goals as goal

pub returns : goal.returns
returns c = constraint_done c.walks_go_on.ensures.constraint c.args.task.now c.args.names.now (tree c.args.e.now) c.args.run.now c.expanded.new.run c.constraint_roots.new.run (λ r. world_seen r c.world_in-world.result) c.in_ok-cell.cell c.in-Ok.roots c.world_in-world.ensures c.in_ok-cell.ensures.goes.back c.in_ok-cell.ensures.means c.in-Ok.ensures.goes.back c.in-Ok.ensures.stays c.in-Ok.ensures.roots

pub returns-in_err-cell : goal.returns-in_err-cell
returns-in_err-cell c = constraint_ends c.walks_are_closed.ensures.constraint c.args.task.now c.args.names.now (tree c.args.e.now) c.args.run.now c.expanded.new.run (λ r. world_seen r c.world_in-world.result) c.from_residual.result c.in_err-cell.field-0.0 c.world_in-world.ensures c.in_err-cell.ensures.goes.back c.in_err-cell.ensures.means c.from_residual.ensures.1
