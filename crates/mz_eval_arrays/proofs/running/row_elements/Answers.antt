use Rattle.mz_eval_arrays.proofs.Sequence.{each_place}
use Rattle.mz_eval_arrays.proofs.running.row_elements.Goals as goal

pub returns : goal.returns
returns c = each_place 0 c.args.bs.now
