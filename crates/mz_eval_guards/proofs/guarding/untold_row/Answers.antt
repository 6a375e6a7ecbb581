use Rattle.std.proofs.Common.{map}
use Rattle.mz_eval_cells.specs.Views.{known_bound}
use Rattle.mz_eval_guards.proofs.RowLaws.{untold_row}
use Rattle.mz_eval_guards.proofs.guarding.untold_row.Goals as goal

pub returns-clause-cell : goal.returns-clause-cell
returns-clause-cell c = untold_row c.args.run.now c.args.index.now.value.items (map known_bound c.args.xs.now.value.bounds.value.items) c.args.d c.args.xs.now.value c.in_ok-k.k c.requires c.in_ok-k.ensures.of c.in_ok-k.ensures.seen
