use Rattle.std.proofs.Common.{subst}
use Rattle.mz_eval_cells.specs.Views.{cell_of}
use Rattle.mz_eval_cells.specs.Meets.{Tells}
use Rattle.mz_eval_row_cells.specs.Steps.{var_of}
use Rattle.mz_eval_row_cells.proofs.opened.unbounded.Goals as goal

pub returns : goal.returns
returns c = subst (λ x. Tells cell_of c.var_of.result (var_of c.args.at x)) c.in_ok-b.ensures c.var_of.ensures
