use Rattle.std.proofs.Common.{◌∙◌, ◌+◌, sym, ap}
use Rattle.std.proofs.lemmas.Result.{err_from_is_err_and}
use Rattle.mz_meaning.specs.Globals.{call_cost}
use Rattle.mz_symbol.specs.Readings.{state_of}
use Rattle.mz_eval_cells.specs.declared.types.Known.{Known}
use Rattle.mz_eval_cells.specs.Views.{all_seen, cells_of, seen}
use Rattle.mz_eval_scopes.specs.Seen.{world_seen}
use Rattle.mz_eval_nodes.proofs.WorkLaws.{earns_pays}
use Rattle.mz_eval_nodes.proofs.Calls.{call_goes, call_stops, cost_seen}
use Rattle.mz_eval_nodes.proofs.globals.call.Goals as goal

pub returns-clause-goes : goal.returns-clause-goes
returns-clause-goes c = earns_pays (1 + c.in_ok-cost.cost) c.args.run.now c.spend.new.self c.given.new.run c.in_ok-spend.ensures.earns c.given.ensures.goes

pub returns-clause-means : goal.returns-clause-means
returns-clause-means c r h =
    let ks = c.args.all.items in
    let u = state_of r c.spend.new.self in
    call_goes (seen r) (world_seen r c.args.world.now) c.args.at (all_seen r ks) c.args.g c.in_ok-cost.cost (state_of r c.args.run.now) u (state_of r c.given.new.run) c.given.result
    (c.in_ok-cost.ensures ∙ ap (λ xs. call_cost c.args.g (cells_of xs)) c.deref.ensures.value ∙ sym (cost_seen r c.args.g ks))
    (c.in_ok-spend.ensures.means r (c.given.ensures.goes.back r h))
    (c.given.ensures.means r h)

pub returns-in_err-spend-clause-means : goal.returns-in_err-spend-clause-means
returns-in_err-spend-clause-means c r h =
    let p = err_from_is_err_and c.from_residual-in_err-spend.result c.from_residual-in_err-spend.ensures.1 in
    let ks = c.args.all.items in
    rw (p.1, p.2) (call_stops {A = Known} {B = Unit {0}} (seen r) (λ _. tt) (world_seen r c.args.world.now) c.args.at (all_seen r ks) c.args.g c.in_ok-cost.cost (state_of r c.args.run.now) (state_of r c.spend.new.self) c.in_err-spend.field-0.0
    (c.in_ok-cost.ensures ∙ ap (λ xs. call_cost c.args.g (cells_of xs)) c.deref.ensures.value ∙ sym (cost_seen r c.args.g ks))
    (c.in_err-spend.ensures.means r h))
