use Rattle.mz_core.specs.Types.{plain_type}
use Rattle.mz_operations.specs.RowBounds.{row_bounds}
use Rattle.mz_meaning.specs.Operations.{limited, argument_bounds, with_shape}
use Rattle.mz_eval_cells.specs.Views.{cells_of}
use Rattle.mz_eval_row_cells.specs.Steps.{bounds_or}
use Rattle.mz_eval_row_cells.proofs.Told.{shaped_ends, tells_shaped}
use Rattle.mz_eval_row_cells.proofs.opened.bounded.Goals as goal

pub returns-in_err-k : goal.returns-in_err-k
returns-in_err-k c =
    let cs = cells_of c.args.cells.now in
    shaped_ends (with_shape c.args.row cs) (limited c.args.at (bounds_or (plain_type c.args.t.now) (row_bounds c.args.row (argument_bounds c.args.row cs)))) c.from_residual.result c.in_err-k.field-0.0 c.from_residual.ensures.1 c.in_err-k.ensures

pub returns : goal.returns
returns c =
    let cs = cells_of c.args.cells.now in
    tells_shaped (with_shape c.args.row cs) (limited c.args.at (bounds_or (plain_type c.args.t.now) (row_bounds c.args.row (argument_bounds c.args.row cs)))) _ _ c.in_ok-k.ensures c.with_shape.ensures
