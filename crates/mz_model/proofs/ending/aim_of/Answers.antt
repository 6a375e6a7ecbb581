use Rattle.mz_eval_scopes.specs.Seen.{world_seen}
use Rattle.mz_model.specs.Walks.{names_of}
use Rattle.mz_model.proofs.Endings.{aim_is, aim_fails}
use Rattle.mz_model.proofs.ending.aim_of.Goals as goal

pub returns : goal.returns
returns c = aim_is c.args.task.now (names_of c.args.names.now) c.args.run.now c.objective.new.run c.goal_of.new.run (λ r. world_seen r c.world_in-world.result) c.in_ok-k.k c.in-Ok.goal c.world_in-world.ensures c.in_ok-k.ensures.goes.back c.in_ok-k.ensures.means c.in-Ok.ensures.back c.in-Ok.ensures.same c.in-Ok.ensures.goal c.in-Ok.ensures.aimed

pub returns-in_err-k : goal.returns-in_err-k
returns-in_err-k c = aim_fails c.args.task.now (names_of c.args.names.now) c.args.run.now c.objective.new.run (λ r. world_seen r c.world_in-world.result) c.from_residual.result c.in_err-k.field-0.0 c.world_in-world.ensures c.in_err-k.ensures.goes.back c.in_err-k.ensures.means c.from_residual.ensures.1
