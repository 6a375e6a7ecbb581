use Rattle.std.proofs.Common.{◌∙◌, ◌+◌, [], ◌∷◌}
use Rattle.mz_core.specs.Types.{plain_type}
use Rattle.mz_symbol.specs.Readings.{state_of}
use Rattle.mz_eval_cells.specs.Views.{all_seen, cells_of}
use Rattle.mz_eval_scopes.specs.Seen.{world_seen}
use Rattle.mz_eval_row_symbols.specs.NodeRows.{stamped}
use Rattle.mz_eval_nodes.proofs.BareLaws.{node_bare}
use Rattle.mz_eval_nodes.proofs.WorkLaws.{cost_fits, cost_seen, earns_goes, node_meets}
use Rattle.mz_eval_nodes.proofs.nodes.par_row_two.Goals as goal

pub overflow_add-cost : goal.overflow_add-cost
overflow_add-cost c = cost_fits c.args.row (cells_of (c.args.a ∷ c.args.b ∷ [])) c.cost_of_two-cost.result c.cost_of_two-cost.ensures

pub returns-clause-goes : goal.returns-clause-goes
returns-clause-goes c = earns_goes (1 + c.cost_of_two-cost.result) c.args.run.now c.spend.new.self c.rows_of_par-k.new.run c.in_ok-spend.ensures.earns c.rows_of_par-k.ensures.goes

pub returns-clause-means : goal.returns-clause-means
returns-clause-means c r h =
    let ks = c.args.a ∷ c.args.b ∷ [] in
    node_meets (world_seen r c.args.world.now) c.args.at (plain_type c.args.t.now) (all_seen r ks) c.args.row c.cost_of_two-cost.result (state_of r c.args.run.now) (state_of r c.spend.new.self) (state_of r c.rows_of_par-k.new.run) (stamped (plain_type c.args.t.now) r) c.rows_of_par-k.result
    (c.cost_of_two-cost.ensures ∙ cost_seen r c.args.row ks) (c.in_ok-spend.ensures.means r (c.rows_of_par-k.ensures.goes.back r h)) (c.rows_of_par-k.ensures.means r h)

pub returns-clause-bare : goal.returns-clause-bare
returns-clause-bare c = node_bare c.args.world.now c.args.at (plain_type c.args.t.now) (c.args.a ∷ c.args.b ∷ []) c.args.row c.rows_of_par-k.result c.args.run.now c.rows_of_par-k.new.run c.sound.ensures.arena (returns-clause-means c)
