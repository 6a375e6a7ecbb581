use Rattle.mz_eval_cells.specs.Views.{known_bound}
use Rattle.mz_eval_guards.proofs.GuardingLaws.{partial_cell}
use Rattle.mz_eval_guards.proofs.guarding.partial_kept.Goals as goal

pub returns-clause-cell : goal.returns-clause-cell
returns-clause-cell c = partial_cell 6 _ _ _ (known_bound c.args.bound) c.args.d c.args.yes c.args.defined c.in_ok-first.first c.in_ok-second.second c.in_ok-k.k c.in_ok-first.ensures.says c.in_ok-second.ensures.goes c.in_ok-second.ensures.says c.in_ok-k.ensures.of c.in_ok-k.ensures.seen
