use Rattle.std.proofs.Common.{[], ◌∷◌, ◌+◌, ◌*◌}
use Rattle.mz_operations.specs.declared.row.Row.TheVariants.{Scalar}
use Rattle.mz_meaning.specs.Operations.{row_cost}
use Rattle.mz_symbol_rows.proofs.GoingOn.{goes_most}
use Rattle.mz_eval_cells.specs.Views.{cell_of}
use Rattle.mz_eval_symbols.specs.Taken.{count_in}
use Rattle.mz_eval_row_symbols.proofs.lines.symbol_of_array.Goals as goal

pub returns-clause-goes : goal.returns-clause-goes
returns-clause-goes c =
    goes_most (64 * count_in c.args.a.now.cell + 28) (64 * (1 + row_cost (Scalar c.args.w) (cell_of c.args.a.now.cell ∷ []))) c.args.run.now c.symbol_of_line.new.run (c.is_paid.ensures c.if-not-is_paid.false) c.symbol_of_line.ensures.goes
