use Rattle.mz_model_roots.proofs.OperandLaws.{taken_off}
use Rattle.mz_model_roots.proofs.operands.with_operand.Goals as goal

pub returns : goal.returns
returns c t h = taken_off c.args.nodes.now c.args.s.taken.items c.push.new.self.items c.args.s.before c.in-Some.p c.in-Some.ensures c.in_ok-push.ensures.items t h
