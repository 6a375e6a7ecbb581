use Rattle.std.proofs.Common.{◌≡◌, subst}
use Rattle.mz_core.specs.Types.{plain_type}
use Rattle.mz_meaning.specs.Runs.{Out}
use Rattle.mz_meaning.specs.Cells.{Bare, undefined}
use Rattle.mz_meaning.specs.Forms.{done}
use Rattle.mz_symbol.specs.Readings.{blank, state_of}
use Rattle.mz_eval_cells.specs.Views.{seen}
use Rattle.mz_eval_scopes.specs.Seen.{world_seen}
use Rattle.mz_eval_nodes.proofs.NodeLaws.{typed_meets}
use Rattle.mz_eval_nodes.proofs.nodes.no_row.Goals as goal

pub returns-clause-bare : goal.returns-clause-bare
returns-clause-bare c =
    let w = world_seen blank c.args.world.now in
    let s = state_of blank c.args.run.now in
    let u = state_of blank c.done.new.run in
    let k = seen blank c.in_ok-k.k in
    typed_meets Bare (plain_type c.args.t.now) (done w c.args.at undefined s) k (seen blank c.in_ok-x.x) u (subst (λ x. done w c.args.at x s ≡ Out k u) (c.undefined.ensures.seen blank) c.in_ok-k.ensures.bare) (c.in_ok-x.ensures blank)
