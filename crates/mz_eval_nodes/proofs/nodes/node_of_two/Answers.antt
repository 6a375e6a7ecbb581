use Rattle.std.proofs.Common.{[], ◌∷◌, false}
use Rattle.mz_core.specs.Types.{plain_type}
use Rattle.mz_meaning.specs.Cells.{Bare, typed}
use Rattle.mz_symbol.specs.Readings.{blank, state_of}
use Rattle.mz_eval_cells.specs.Views.{seen}
use Rattle.mz_eval_scopes.specs.Seen.{world_seen}
use Rattle.mz_eval_nodes.proofs.NodeLaws.{row_meets}
use Rattle.mz_eval_nodes.proofs.nodes.node_of_two.Goals as goal

pub returns-clause-bare : goal.returns-clause-bare
returns-clause-bare c =
    let t = plain_type c.args.t.now in
    row_meets (world_seen blank c.args.world.now) c.args.at t (seen blank c.args.args.0.cell ∷ seen blank c.args.args.1.cell ∷ []) c.args.row c.in-Some.w (typed Bare false t (seen blank c.in_ok-k.k)) (seen blank c.in_ok-x.x) (state_of blank c.args.run.now) (state_of blank c.row_two.new.run)
    c.in-Some.is c.in_ok-k.ensures.bare (c.in_ok-x.ensures blank)
