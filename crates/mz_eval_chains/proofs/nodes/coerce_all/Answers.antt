use Rattle.mz_core.specs.Paths.{path_link}
use Rattle.mz_meaning.specs.Forms.{coerced_once}
use Rattle.mz_eval_cells.specs.Views.{cell_of, seen}
use Rattle.mz_eval_scopes.specs.Runs.{at_work}
use Rattle.mz_eval_scopes.specs.Views.{world_of}
use Rattle.mz_eval_scopes.specs.Seen.{world_seen}
use Rattle.mz_symbol.specs.Readings.{state_of}
use Rattle.mz_symbol.proofs.RunLaws.{goes_on}
use Rattle.mz_eval_chains.proofs.Runs.{loop_goes}
use Rattle.mz_eval_chains.proofs.nodes.coerce_all.Goals as goal

pub loop-link-preserved : goal.loop-link-preserved
loop-link-preserved c =
    let goes = goes_on _ _ _ c.loop-link.invariant.0.goes c.coerce_once.ensures.goes in (
      record {
        goes = goes;
        so_far = λ r h. loop_goes path_link (coerced_once (world_seen r c.args.world.now) c.args.at) c.args.links.now c.loop-link.link-index c.link-item.result (seen r c.loop-link.cell) (seen r c.in_ok-cell.cell) (state_of r c.loop-link.run) (state_of r c.coerce_once.new.run) _ c.loop-link-test.true c.link-item.is (c.in_ok-cell.ensures.means r h) (c.loop-link.invariant.0.so_far r (c.coerce_once.ensures.goes.back r h));
      },
      record {
        goes = goes;
        so_far = loop_goes path_link (coerced_once (world_of c.args.world.now) c.args.at) c.args.links.now c.loop-link.link-index c.link-item.result (cell_of c.loop-link.cell) (cell_of c.in_ok-cell.cell) (at_work c.loop-link.run.work) (at_work c.coerce_once.new.run.work) _ c.loop-link-test.true c.link-item.is c.in_ok-cell.ensures.bare c.loop-link.invariant.1.so_far;
      },
    )
