use Rattle.mz_model_roots.proofs.OperandLaws.{once_more}
use Rattle.mz_model_roots.proofs.operands.without.Goals as goal

pub returns : goal.returns
returns c t h = once_more t c.args.taken.items c.push.new.self.items c.args.before c.in_ok-push.ensures.items
