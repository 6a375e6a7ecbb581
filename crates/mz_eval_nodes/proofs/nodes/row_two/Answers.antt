use Rattle.std.proofs.Common.{◌∙◌, ◌+◌, ◌*◌, [], ◌∷◌, subst, sym}
use Rattle.mz_core.specs.Types.{plain_type}
use Rattle.mz_symbol.specs.Makes.{GoesOnBy}
use Rattle.mz_symbol.specs.Readings.{state_of}
use Rattle.mz_eval_cells.specs.Views.{all_seen, cells_of}
use Rattle.mz_eval_scopes.specs.Seen.{world_seen}
use Rattle.mz_eval_row_symbols.specs.NodeRows.{stamped}
use Rattle.mz_eval_nodes.proofs.BareLaws.{node_bare}
use Rattle.mz_eval_nodes.proofs.WorkLaws.{cost_fits, cost_seen, earns_pays, node_meets}
use Rattle.mz_eval_nodes.proofs.nodes.row_two.Goals as goal

pub overflow_add-cost : goal.overflow_add-cost
overflow_add-cost c = cost_fits c.args.row (cells_of (c.args.args.0.cell ∷ c.args.args.1.cell ∷ [])) c.cost_of_two-cost.result c.cost_of_two-cost.ensures

pub returns-clause-goes : goal.returns-clause-goes
returns-clause-goes c =
    earns_pays (1 + c.cost_of_two-cost.result) c.args.run.now c.spend.new.self c.row_of_two-k.new.run c.in_ok-spend.ensures.earns
    (subst (λ n. GoesOnBy (64 * (1 + n)) c.spend.new.self c.row_of_two-k.new.run) (sym c.cost_of_two-cost.ensures) c.row_of_two-k.ensures.goes)

pub returns-clause-means : goal.returns-clause-means
returns-clause-means c r h =
    let ks = c.args.args.0.cell ∷ c.args.args.1.cell ∷ [] in
    node_meets (world_seen r c.args.world.now) c.args.at (plain_type c.args.t.now) (all_seen r ks) c.args.row c.cost_of_two-cost.result (state_of r c.args.run.now) (state_of r c.spend.new.self) (state_of r c.row_of_two-k.new.run) (stamped (plain_type c.args.t.now) r) c.row_of_two-k.result
    (c.cost_of_two-cost.ensures ∙ cost_seen r c.args.row ks) (c.in_ok-spend.ensures.means r (c.row_of_two-k.ensures.goes.back r h)) (c.row_of_two-k.ensures.means r h)

pub returns-clause-bare : goal.returns-clause-bare
returns-clause-bare c = node_bare c.args.world.now c.args.at (plain_type c.args.t.now) (c.args.args.0.cell ∷ c.args.args.1.cell ∷ []) c.args.row c.row_of_two-k.result c.args.run.now c.row_of_two-k.new.run c.sound.ensures.arena (returns-clause-means c)
