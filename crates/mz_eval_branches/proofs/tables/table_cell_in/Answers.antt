use Rattle.std.proofs.Common.{◌∙◌, sym}
use Rattle.std.proofs.lemmas.Result.{err_from_is_err_and}
use Rattle.mz_symbol.specs.Readings.{state_of, blank}
use Rattle.mz_eval_cells.specs.Views.{cell_of}
use Rattle.mz_eval_branches.proofs.TableLaws.{is_var_table, table_par, table_refused, table_var}
use Rattle.mz_eval_branches.proofs.tables.table_cell_in.Goals as goal

pub returns-in_err-k-clause-means : goal.returns-in_err-k-clause-means
returns-in_err-k-clause-means c r h =
    let p = err_from_is_err_and c.from_residual.result c.from_residual.ensures.1 in
    rw (p.1, p.2) (table_refused r c.args.at c.args.rows.now c.in_err-k.field-0.0 (state_of r c.args.run.now) (state_of r c.args.run.now) (c.in_err-k.ensures.by (state_of r c.args.run.now)))

pub returns-then-is_par-clause-means : goal.returns-then-is_par-clause-means
returns-then-is_par-clause-means c r h = table_par r c.args.at c.args.rows.now c.in_ok-k.k (state_of r c.args.run.now) (sym c.is_par.ensures ∙ c.if-is_par.true) (c.in_ok-k.ensures.by (state_of r c.args.run.now))

pub open_table-requires : goal.open_table-requires
open_table-requires c = is_var_table c.args.at c.args.rows.now (cell_of c.in_ok-k.k) (state_of blank c.args.run.now) (sym c.is_par.ensures ∙ c.if-is_par.false) (c.in_ok-k.ensures.by (state_of blank c.args.run.now))

pub returns-clause-means : goal.returns-clause-means
returns-clause-means c r h =
    table_var r c.args.at c.args.rows.now (cell_of c.in_ok-k.k) (state_of r c.args.run.now) (sym c.is_par.ensures ∙ c.if-is_par.false) (c.in_ok-k.ensures.by (state_of r c.args.run.now))
    ∙ c.in_ok-x.ensures.means r h
