use Rattle.std.proofs.Common.{◌∙◌, ◌+◌, ◌*◌, [], ◌∷◌, ap}
use Rattle.mz_operations.specs.declared.row.MadeRow.TheVariants as made
use Rattle.mz_operations.specs.declared.row.Row.TheVariants.{Made}
use Rattle.mz_meaning.specs.Operations.{row_cost}
use Rattle.mz_meaning.specs.Runs.{Out}
use Rattle.mz_symbol.specs.Readings.{state_of}
use Rattle.mz_eval_cells.specs.Views.{cell_of}
use Rattle.mz_eval_rows.proofs.JoinedLaws.{goes_same}
use Rattle.mz_eval_rows.proofs.joined.both_cell.Goals as goal

pub returns-clause-goes : goal.returns-clause-goes
returns-clause-goes c = goes_same (64 * (1 + row_cost (Made made.Concat) (cell_of c.args.a.now.cell ∷ cell_of c.args.b.now.cell ∷ []))) c.args.run.now

pub returns-clause-means : goal.returns-clause-means
returns-clause-means c names t r h = ap (λ x. Out x (state_of r c.args.run.now)) (c.in_ok-k.ensures names t r)
