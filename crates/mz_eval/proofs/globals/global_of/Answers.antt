use Rattle.std.proofs.Common.{false}
use Rattle.mz_core.specs.Types.{plain_type}
use Rattle.mz_meaning.specs.Forms.{global_by}
use Rattle.mz_symbol.specs.Readings.{state_of}
use Rattle.mz_eval_cells.specs.Views.{all_seen, seen}
use Rattle.mz_eval.specs.Levels.{world_in}
use Rattle.mz_eval.proofs.Stamps.{stamps}
use Rattle.mz_eval.proofs.globals.global_of.Goals as goal

pub returns-clause-means : goal.returns-clause-means
returns-clause-means c r h = stamps (seen r) r.mode false (plain_type c.args.node.now.ty) c.operated_global.result (state_of r c.operated_global.new.run) (global_by (world_in r c.args.level.now) c.args.node.now.span (all_seen r c.args.cells.items) c.args.g (state_of r c.args.run.now)) (c.operated_global.ensures.means r h)
