use Rattle.std.proofs.lemmas.Result.{err_from_is_err_and}
use Rattle.mz_symbol.specs.Readings.{state_of}
use Rattle.mz_symbol_rows.specs.RowValues.{argument}
use Rattle.mz_eval_cells.specs.Views.{known_bound}
use Rattle.mz_eval_nodes.proofs.Calls.{var_ends, var_gives}
use Rattle.mz_eval_nodes.proofs.globals.var_call.Goals as goal

pub returns-clause-means : goal.returns-clause-means
returns-clause-means c r h = var_gives r c.args.g c.args.at c.args.all.now (known_bound c.in_ok-bound.bound) (argument r c.in_ok-s.s) c.in_ok-k.k (state_of r c.args.run.now) (state_of r c.symbol_of_call.new.run) c.requires.var (c.in_ok-bound.ensures.by (state_of r c.args.run.now)) (c.in_ok-s.ensures.means r h) (c.in_ok-k.ensures r)

pub returns-in_err-bound-clause-means : goal.returns-in_err-bound-clause-means
returns-in_err-bound-clause-means c r h =
    let p = err_from_is_err_and c.from_residual.result c.from_residual.ensures.1 in
    rw (p.1, p.2) (var_ends known_bound r c.args.g c.args.at c.args.all.now c.in_err-bound.field-0.0 (state_of r c.args.run.now) c.requires.var c.in_err-bound.ensures)
