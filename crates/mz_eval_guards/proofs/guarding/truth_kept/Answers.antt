use Rattle.mz_eval_cells.specs.Views.{known_bound}
use Rattle.mz_eval_guards.proofs.GuardingLaws.{truth_cell}
use Rattle.mz_eval_guards.proofs.guarding.truth_kept.Goals as goal

pub returns-clause-cell : goal.returns-clause-cell
returns-clause-cell c = truth_cell _ _ (known_bound c.args.bound) c.args.d c.args.x c.in_ok-all.all c.in_ok-k.k c.in_ok-all.ensures.says c.in_ok-k.ensures.of c.in_ok-k.ensures.seen
