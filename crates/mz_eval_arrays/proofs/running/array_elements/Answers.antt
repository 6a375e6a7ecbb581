use Rattle.mz_eval_arrays.proofs.Sequence.{each_value}
use Rattle.mz_eval_arrays.proofs.running.array_elements.Goals as goal

pub returns : goal.returns
returns c = each_value c.args.items.now
