use Rattle.std.proofs.Common.{None, ap}
use Rattle.mz_meaning.specs.Cells.{value_of}
use Rattle.mz_eval_cells.specs.Views.{known_bound, seen, var_content}
use Rattle.mz_eval_guards.proofs.GuardingLaws.{plain_cell}
use Rattle.mz_eval_guards.proofs.guarding.plain_kept.Goals as goal

pub returns-clause-cell : goal.returns-clause-cell
returns-clause-cell c = plain_cell 20 c.args.run.now c.symbol_in.new.run c.symbol_kept.new.run (known_bound c.args.bound) c.args.d None c.in_ok-k.k c.in_ok-x.x c.in-Ok.s (λ r. var_content r.term c.args.v.now.value) (λ r. ap value_of (c.in_ok-k.ensures r)) c.in-Ok.ensures.means c.in_ok-x.ensures.goes c.in_ok-x.ensures.cell
