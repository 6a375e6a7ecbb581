use Rattle.mz_eval_arrays.proofs.GatheredCells.{par_line_seen}
use Rattle.mz_eval_arrays.proofs.lines.par_line.Goals as goal

pub returns : goal.returns
returns c r = par_line_seen r c.args.g c.in_ok-k.k c.requires c.in_ok-k.ensures
