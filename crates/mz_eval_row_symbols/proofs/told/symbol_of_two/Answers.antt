use Rattle.std.proofs.Common.{[], ◌∷◌, arith}
use Rattle.mz_eval_cells.specs.Views.{cell_of}
use Rattle.mz_eval_row_symbols.proofs.ToldLaws.{goes_paid}
use Rattle.mz_eval_row_symbols.proofs.told.symbol_of_two.Goals as goal

pub returns-in-Made-clause-means : goal.returns-in-Made-clause-means
returns-in-Made-clause-means c = rw c.in-Made.is c.made_of_two.ensures.means

pub returns-in-Made-clause-goes : goal.returns-in-Made-clause-goes
returns-in-Made-clause-goes c = goes_paid 22 c.args.row (cell_of c.args.a.now.cell ∷ cell_of c.args.b.now.cell ∷ []) c.args.run.now c.made_of_two.new.run (omega arith) c.made_of_two.ensures.goes
