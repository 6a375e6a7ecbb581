use Rattle.std.proofs.Common.{◌∙◌, refl, sym}
use Rattle.mz_symbol.proofs.ConstantLaws.{out_value, out_state}
use Rattle.mz_symbol_rows.proofs.RowLaws.{out_both}
use Rattle.mz_eval_cells.specs.Views.{cell_of}
use Rattle.mz_eval_branches.proofs.TableLaws.{table_unvalued, table_drawn}
use Rattle.mz_eval_branches.proofs.tables.joined_table.Goals as goal

pub returns-then-not-have_values-clause-means : goal.returns-then-not-have_values-clause-means
returns-then-not-have_values-clause-means c r h = out_both (table_unvalued r c.args.rows.now c.args.all.now (cell_of c.args.k) c.requires.joined c.requires.open (sym c.have_values.ensures ∙ c.if-not-have_values.true) ∙ sym (c.in_ok-x.ensures r)) refl

pub returns-clause-means : goal.returns-clause-means
returns-clause-means c r h =
    let e = c.in_ok-x-2.ensures.means r h in
    out_both (table_drawn r c.args.rows.now c.args.all.now (cell_of c.args.k) c.in_ok-ranges.ranges.items c.requires.joined c.requires.open c.in_ok-ranges.ensures ∙ out_value e) (out_state e)
