use Rattle.mz_eval_row_cells.proofs.Told.{tells_given}
use Rattle.mz_eval_globals.proofs.calls.result_by.Goals as goal

pub returns : goal.returns
returns c = tells_given c.in_ok-k.k _ c.in_ok-k.ensures
