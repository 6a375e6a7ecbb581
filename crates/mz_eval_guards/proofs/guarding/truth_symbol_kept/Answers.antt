use Rattle.mz_eval_cells.specs.Views.{known_bound}
use Rattle.mz_eval_guards.proofs.GuardingLaws.{truth_symbol}
use Rattle.mz_eval_guards.proofs.guarding.truth_symbol_kept.Goals as goal

pub returns-clause-cell : goal.returns-clause-cell
returns-clause-cell c = truth_symbol _ _ (known_bound c.args.bound) c.args.d c.args.s c.in_ok-k.k c.requires c.in_ok-k.ensures.cell
