use Rattle.std.proofs.Common.{ap}
use Rattle.mz_meaning.specs.Forms.{done}
use Rattle.mz_meaning.specs.Runs.{then_do}
use Rattle.mz_symbol.specs.Readings.{state_of}
use Rattle.mz_eval_cells.specs.Views.{seen}
use Rattle.mz_eval_chains.proofs.Runs.{meets_at_is}
use Rattle.mz_eval.specs.Levels.{world_in}
use Rattle.mz_eval.proofs.locals.ended.Goals as goal

pub returns-clause-means : goal.returns-clause-means
returns-clause-means c r h =
    meets_at_is (seen r) c.done.result (state_of r c.done.new.run) _ _
    (ap (λ a. then_do a (done (world_in r c.args.level.now) c.args.node.now.span)) (c.in_ok-cell.ensures.means r (c.done.ensures.goes.back r h)))
    (c.done.ensures.means r h)
