use Rattle.mz_eval_row_symbols.proofs.told.symbol_of_one.Goals as goal

pub returns-in-Made-clause-means : goal.returns-in-Made-clause-means
returns-in-Made-clause-means c = rw c.in-Made.is c.made_with_one.ensures.means
