use Rattle.std.proofs.Common.{◌≡◌, ◌∙◌, ◌+◌, ◌*◌, ap, subst, sym}
use Rattle.std.proofs.lemmas.Result.{err_from_is_err_and}
use Rattle.mz_core.specs.Types.{plain_type}
use Rattle.mz_meaning.specs.Operations.{row_cost}
use Rattle.mz_symbol.specs.Makes.{GoesOnBy}
use Rattle.mz_symbol.specs.Readings.{state_of}
use Rattle.mz_eval_cells.specs.declared.types.Known.{Known}
use Rattle.mz_eval_cells.specs.Views.{all_seen, cells_of}
use Rattle.mz_eval_scopes.specs.Seen.{world_seen}
use Rattle.mz_eval_row_symbols.specs.NodeRows.{stamped}
use Rattle.mz_eval_nodes.proofs.WorkLaws.{cost_fits, cost_seen, earns_pays, node_meets, node_stops}
use Rattle.mz_eval_nodes.proofs.nodes.row_all.Goals as goal

pub overflow_add-cost : goal.overflow_add-cost
overflow_add-cost c = cost_fits c.args.row (cells_of (c.args.all.items)) c.in_ok-cost.cost (c.in_ok-cost.ensures ∙ ap (λ ks. row_cost c.args.row (cells_of ks)) c.deref.ensures.value)

pub returns-clause-goes : goal.returns-clause-goes
returns-clause-goes c =
    earns_pays (1 + c.in_ok-cost.cost) c.args.run.now c.spend.new.self c.row_of_all.new.run c.in_ok-spend.ensures.earns
    (subst (λ n. GoesOnBy (64 * (1 + n)) c.spend.new.self c.row_of_all.new.run) (sym (c.in_ok-cost.ensures ∙ ap (λ ks. row_cost c.args.row (cells_of ks)) c.deref.ensures.value)) c.row_of_all.ensures.goes)

pub returns-clause-means : goal.returns-clause-means
returns-clause-means c r h =
    let ks = c.args.all.items in
    node_meets (world_seen r c.args.world.now) c.args.at (plain_type c.args.t.now) (all_seen r ks) c.args.row c.in_ok-cost.cost (state_of r c.args.run.now) (state_of r c.spend.new.self) (state_of r c.row_of_all.new.run) (stamped (plain_type c.args.t.now) r) c.row_of_all.result
    ((c.in_ok-cost.ensures ∙ ap (λ ks. row_cost c.args.row (cells_of ks)) c.deref.ensures.value) ∙ cost_seen r c.args.row ks) (c.in_ok-spend.ensures.means r (c.row_of_all.ensures.goes.back r h)) (c.row_of_all.ensures.means r h)

pub returns-in_err-spend-clause-means : goal.returns-in_err-spend-clause-means
returns-in_err-spend-clause-means c r h =
    let p = err_from_is_err_and c.from_residual-in_err-spend.result c.from_residual-in_err-spend.ensures.1 in
    let ks = c.args.all.items in
    let t = plain_type c.args.t.now in
    let same : c.in_ok-cost.cost ≡ row_cost c.args.row (cells_of ks) = c.in_ok-cost.ensures ∙ ap (λ xs. row_cost c.args.row (cells_of xs)) c.deref.ensures.value in
    rw (p.1, p.2) (node_stops {A = Known} {B = Unit {0}} (world_seen r c.args.world.now) c.args.at t (all_seen r ks) c.args.row c.in_ok-cost.cost (state_of r c.args.run.now) (state_of r c.spend.new.self) (stamped t r) (λ _. tt) c.in_err-spend.field-0.0 (same ∙ cost_seen r c.args.row ks) (c.in_err-spend.ensures.means r h))
