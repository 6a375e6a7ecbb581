use Rattle.mz_eval_cells.specs.Views.{cell_of, seen}
use Rattle.mz_eval_declared.proofs.Told.{none_fitted, some_fitted}
use Rattle.mz_eval_declared.proofs.fitting.fitted.Goals as goal

pub returns-in-empty-clause-of : goal.returns-in-empty-clause-of
returns-in-empty-clause-of c = none_fitted cell_of c.args.at c.args.ws.now c.args.k c.in-empty.len_below

pub returns-in-empty-clause-seen : goal.returns-in-empty-clause-seen
returns-in-empty-clause-seen c r = none_fitted (seen r) c.args.at c.args.ws.now c.args.k c.in-empty.len_below

pub returns-in-len1-up-clause-of : goal.returns-in-len1-up-clause-of
returns-in-len1-up-clause-of c = some_fitted cell_of c.args.at c.args.ws.now (cell_of c.args.k) _ c.in-len1-up.len_at_least c.some_fitted.ensures.of

pub returns-in-len1-up-clause-seen : goal.returns-in-len1-up-clause-seen
returns-in-len1-up-clause-seen c r = some_fitted (seen r) c.args.at c.args.ws.now (seen r c.args.k) _ c.in-len1-up.len_at_least (c.some_fitted.ensures.seen r)
