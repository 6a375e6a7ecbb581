use Rattle.std.proofs.Common.{◌∙◌}
use Rattle.mz_model_roots.proofs.OperandLaws.{all_taken, none_taken}
use Rattle.mz_model_roots.proofs.operands.operands_of.Goals as goal

pub loop-turn-init : goal.loop-turn-init
loop-turn-init c t h = none_taken t c.new-none.result.items c.args.id c.new-none.ensures.items

pub loop-turn-preserved : goal.loop-turn-preserved
loop-turn-preserved c t h = c.in_ok-s.ensures t h ∙ c.loop-turn.invariant t h

pub returns : goal.returns
returns c t h = all_taken t c.loop-turn.s.taken.items c.push.new.self.items c.turned.result.items c.loop-turn.s.before c.args.id c.in_ok-push.ensures.items c.turned.ensures (c.loop-turn.invariant t h)
