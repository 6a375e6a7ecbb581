use Rattle.mz_eval_cells.specs.Views.{known_bound}
use Rattle.mz_eval_guards.proofs.GuardingLaws.{other_cell}
use Rattle.mz_eval_guards.proofs.guarding.other_kept.Goals as goal

pub returns-clause-cell : goal.returns-clause-cell
returns-clause-cell c = other_cell c.args.run.now c.guarded.new.run (known_bound c.args.bound) c.args.d c.args.s c.in-Ok.x c.in_ok-k.k c.requires c.in-Ok.ensures.means (c.is_truth.ensures.no c.if-is_truth.false) c.in_ok-k.ensures.of c.in_ok-k.ensures.seen
