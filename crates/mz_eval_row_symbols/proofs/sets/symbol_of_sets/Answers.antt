use Rattle.std.proofs.Common.{[], ◌∷◌, ◌+◌, ◌*◌}
use Rattle.mz_operations.specs.declared.row.Row.TheVariants.{Made}
use Rattle.mz_meaning.specs.Operations.{row_cost}
use Rattle.mz_symbol_rows.proofs.GoingOn.{goes_most}
use Rattle.mz_eval_cells.specs.Views.{cell_of}
use Rattle.mz_eval_symbols.specs.Taken.{count_in}
use Rattle.mz_eval_row_symbols.proofs.sets.symbol_of_sets.Goals as goal

pub returns-clause-goes : goal.returns-clause-goes
returns-clause-goes c =
    goes_most (64 * count_in c.args.a.now.cell + 28) (64 * (1 + row_cost (Made c.args.w) (cell_of c.args.a.now.cell ∷ []))) c.args.run.now c.sets_row.new.run (c.sets_are_paid.ensures c.if-not-sets_are_paid.false) c.sets_row.ensures.goes
