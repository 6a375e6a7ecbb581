use Rattle.std.proofs.Common.{subst}
use Rattle.mz_core.specs.Types.{plain_type}
use Rattle.mz_eval_cells.specs.Views.{cell_of, cells_of}
use Rattle.mz_eval_cells.specs.Meets.{Tells}
use Rattle.mz_eval_row_cells.specs.Steps.{open_row}
use Rattle.mz_eval_row_cells.proofs.row_of.open_of_all.Goals as goal

pub returns : goal.returns
returns c names = subst (λ ks. Tells cell_of c.open_row.result (open_row names c.args.row (plain_type c.args.t.now) c.args.at (cells_of ks))) c.as_slice.ensures.value (c.open_row.ensures names)
