use Rattle.std.proofs.Common.{◌≡◌, subst, sym}
use Rattle.mz_core.specs.Types.{plain_type}
use Rattle.mz_meaning.specs.Cells.{Cell, undefined}
use Rattle.mz_meaning.specs.Forms.{done}
use Rattle.mz_symbol.specs.Readings.{state_of}
use Rattle.mz_symbol.specs.Makes.{MeetsAt}
use Rattle.mz_eval_cells.specs.Views.{seen}
use Rattle.mz_eval_scopes.specs.Seen.{world_seen}
use Rattle.mz_eval_nodes.proofs.NodeLaws.{stamps}
use Rattle.mz_eval_nodes.proofs.nodes.untyped.Goals as goal

pub returns-clause-means : goal.returns-clause-means
returns-clause-means c r h =
    let w = world_seen r c.args.world.now in
    let s = state_of r c.args.run.now in
    let u = state_of r c.done.new.run in
    stamps (plain_type c.args.t.now) r c.done.result u (done w c.args.at undefined s)
    (subst (λ (x : Cell). MeetsAt (seen r) c.done.result u (done w c.args.at x s)) (c.undefined.ensures.seen r) (c.done.ensures.means r h))
