use Rattle.std.proofs.Common.{[], ◌∷◌, sym, subst}
use Rattle.mz_operations.specs.declared.row.MadeRow.TheVariants as made
use Rattle.mz_operations.specs.declared.row.Row.TheVariants.{Made}
use Rattle.mz_meaning.specs.Runs.{give}
use Rattle.mz_symbol.specs.Makes.{Means}
use Rattle.mz_eval_cells.specs.Views.{seen}
use Rattle.mz_eval_row_symbols.specs.NodeRows.{shape_stamped, stamped}
use Rattle.mz_eval_rows.proofs.joined.joined_cell.Goals as goal

pub returns-in-Row-clause-means : goal.returns-in-Row-clause-means
returns-in-Row-clause-means c names t =
    subst (λ k. Means (stamped t) c.joined_row.result c.args.run.now c.joined_row.new.run (λ r. give (shape_stamped r names (Made made.Concat) t (seen r c.args.a.now.cell ∷ seen r c.args.b.now.cell ∷ []) k))) (sym c.in-Row.is) (c.joined_row.ensures.means names t)
