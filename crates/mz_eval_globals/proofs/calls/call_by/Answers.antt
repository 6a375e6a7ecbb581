use Rattle.std.proofs.Common.{map}
use Rattle.mz_globals.specs.Table.{refusal_of}
use Rattle.mz_eval_globals.specs.Views.{plain_given}
use Rattle.mz_meaning.specs.Globals.{refused}
use Rattle.mz_meaning.specs.Runs.{give}
use Rattle.mz_eval_cells.specs.Views.{cell_of, cells_of}
use Rattle.mz_eval_row_cells.proofs.Told.{tells_ends, tells_then}
use Rattle.mz_eval_globals.specs.Steps.{global_result_by}
use Rattle.mz_eval_globals.proofs.calls.call_by.Goals as goal

pub returns-in_err-tested : goal.returns-in_err-tested
returns-in_err-tested c =
    let gs = map plain_given c.args.gs.now in
    tells_ends cell_of c.from_residual.result c.in_err-tested.field-0.0 (refused (refusal_of c.args.g gs) c.args.at) (λ _. give (global_result_by c.args.g gs (cells_of c.args.cells.items))) c.from_residual.ensures.1 c.in_err-tested.ensures

pub returns : goal.returns
returns c = tells_then _ c.in_ok-tested.ensures c.result_by.ensures
