use Rattle.mz_core.specs.Types.{plain_type}
use Rattle.mz_meaning.specs.Operations.{tested}
use Rattle.mz_eval_cells.specs.Views.{cell_of, cells_of}
use Rattle.mz_eval_row_cells.specs.Steps.{all_known, bounded}
use Rattle.mz_eval_row_cells.proofs.Told.{tells_ends, tells_then}
use Rattle.mz_eval_row_cells.proofs.opened.var_row.Goals as goal

pub returns-in_err-tested : goal.returns-in_err-tested
returns-in_err-tested c names =
    tells_ends cell_of c.from_residual.result c.in_err-tested.field-0.0 (tested c.args.row c.args.at (all_known c.args.cells.now)) (λ _. bounded c.args.row (plain_type c.args.t.now) c.args.at (cells_of c.args.cells.now)) c.from_residual.ensures.1 c.in_err-tested.ensures

pub returns : goal.returns
returns c names = tells_then _ c.in_ok-tested.ensures c.bounded.ensures
