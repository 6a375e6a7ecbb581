use Rattle.mz_eval_cells.specs.Views.{cell_of}
use Rattle.mz_eval_declared.proofs.Sizes.{none_counted, some_counted}
use Rattle.mz_eval_declared.proofs.ranges.declared_count.Goals as goal

pub returns-in-empty : goal.returns-in-empty
returns-in-empty c = none_counted c.args.ws.now (cell_of c.args.k.now) c.in-empty.len_below

pub returns-in-len1-up : goal.returns-in-len1-up
returns-in-len1-up c = some_counted c.args.ws.now (cell_of c.args.k.now) c.counted.result c.in-len1-up.len_at_least c.counted.ensures
