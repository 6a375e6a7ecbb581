use Rattle.mz_eval_cells.specs.Views.{known_bound}
use Rattle.mz_eval_guards.proofs.GuardingLaws.{untold_cell}
use Rattle.mz_eval_guards.proofs.guarding.untold_kept.Goals as goal

pub returns-clause-cell : goal.returns-clause-cell
returns-clause-cell c = untold_cell c.args.run.now (known_bound c.args.bound) c.args.d c.args.v.now.value c.in_ok-k.k c.requires c.in_ok-k.ensures.of c.in_ok-k.ensures.seen
