use Rattle.mz_eval_arrays.proofs.Seeing.{goes_cells}
use Rattle.mz_eval_arrays.proofs.lines.open_cells.Goals as goal

pub returns-clause-goes : goal.returns-clause-goes
returns-clause-goes c = rw c.in-Cells.is (goes_cells c.in-Cells.all.items c.args.run.now c.cells_line.new.run c.cells_line.ensures.goes)
