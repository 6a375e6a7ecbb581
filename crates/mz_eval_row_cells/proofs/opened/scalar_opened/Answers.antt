use Rattle.mz_core.specs.Types.{plain_type}
use Rattle.mz_eval_cells.specs.Views.{cell_of}
use Rattle.mz_eval_cells.specs.Meets.{Tells}
use Rattle.std.proofs.Common.{subst}
use Rattle.mz_eval_row_cells.specs.Steps.{var_of, bounds_or}
use Rattle.mz_eval_row_cells.proofs.opened.scalar_opened.Goals as goal

pub returns : goal.returns
returns c = subst (λ x. Tells cell_of c.number_or.result (var_of c.args.at (bounds_or (plain_type c.args.t.now) x))) c.in_ok-e.ensures c.number_or.ensures
