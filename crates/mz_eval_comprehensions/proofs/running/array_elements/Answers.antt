use Rattle.mz_eval_comprehensions.proofs.RunningLaws.{each_value}
use Rattle.mz_eval_comprehensions.proofs.running.array_elements.Goals as goal

pub returns : goal.returns
returns c r = each_value c.args.items.now
