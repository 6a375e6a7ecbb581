use Rattle.mz_eval_row_symbols.proofs.lines.symbol_of_line.Goals as goal

pub returns-in-Fold-clause-means : goal.returns-in-Fold-clause-means
returns-in-Fold-clause-means c = rw c.in-Fold.is c.symbol_of_fold.ensures.means

pub returns-in-Extreme-clause-means : goal.returns-in-Extreme-clause-means
returns-in-Extreme-clause-means c = rw c.in-Extreme.is c.symbol_of_extreme.ensures.means
