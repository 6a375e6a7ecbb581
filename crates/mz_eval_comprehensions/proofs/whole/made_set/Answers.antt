use Rattle.mz_core.specs.Types.{plain_type}
use Rattle.mz_eval_comprehensions.proofs.MadeLaws.{set_told}
use Rattle.mz_eval_comprehensions.proofs.whole.made_set.Goals as goal

pub returns : goal.returns
returns c r = set_told r (plain_type c.args.t.now) c.args.g.now c.in_ok-k.k c.in_ok-k.ensures
