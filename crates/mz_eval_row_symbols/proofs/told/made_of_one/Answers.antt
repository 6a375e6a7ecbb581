use Rattle.mz_eval_row_symbols.proofs.told.made_of_one.Goals as goal

pub returns-in-Deopt-clause-means : goal.returns-in-Deopt-clause-means
returns-in-Deopt-clause-means c = rw c.in-Deopt.is c.deopt_of.ensures.means
